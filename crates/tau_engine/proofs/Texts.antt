-- What a sink holds of a report.
use Rattle.std.proofs.Common.{ℕ, zero, suc, ◌+◌, ◌-◌, ◌<◌, ◌≤◌, ◌≡◌, inl, inr, Bool, true, false, min, List, [], ◌∷◌, ◌++◌, length, take, refl, sym, ap, ◌∙◌, Option, append_assoc, length-append, arith}
use Rattle.std.specs.Prelude.{Some, None}
use Rattle.std.proofs.Math.Seq.{take-append-add}
use Rattle.std.proofs.lemmas.List.{take-append-le}
use Rattle.std.proofs.lemmas.Bool.Decides.{leb_tells}
use Rattle.tau_report.specs.declared.report.RunReport.{RunReport}
use Rattle.tau_report.specs.Lines.{end_line}
use Rattle.tau_report.specs.Report.{ack_lines, fate_lines, order_lines, row_lines, rest_text, report_text}
use Rattle.tau_run.specs.RunFacts.{WroteFront}
use Rattle.tau_run.specs.Heard.{Heard}
use Rattle.tau_commands.specs.Outside.{Wrote}

module _ {A : Type 0} where
  take_short : (k : ℕ) (xs : List A) → length (take k xs) ≤ length xs
  take_short zero xs = omega arith
  take_short (suc k) [] = omega arith
  take_short (suc k) (x ∷ xs) = let e = take_short k xs in omega (arith, e)

  take_again : (k : ℕ) (xs : List A) → take (length (take k xs)) xs ≡ take k xs
  take_again zero xs = refl
  take_again (suc k) [] = refl
  take_again (suc k) (x ∷ xs) = ap (λ (l : List A). x ∷ l) (take_again k xs)

  pub take_long : (k : ℕ) (xs : List A) → length xs ≤ k → take k xs ≡ xs
  take_long zero [] le = refl
  take_long zero (x ∷ xs) le = absurd (omega (arith, le))
  take_long (suc k) [] le = refl
  take_long (suc k) (x ∷ xs) le = ap (λ (l : List A). x ∷ l) (take_long k xs (omega (arith, le)))

-- how much of the lines stands after what was held
abbrev grown : List ℕ → List ℕ → List ℕ → ℕ
grown held held' lines = min (length held' - length held) (length lines)

grown_is : (held held' lines : List ℕ) (k : ℕ) → held' ≡ held ++ take k lines → grown held held' lines ≡ length (take k lines)
grown_is held held' lines k is =
    let long : length held' ≡ length held + length (take k lines) = ap length is ∙ length-append held (take k lines) in
    let few = take_short k lines in
    omega (arith, long, few)

-- a first part of the lines, of a length that is known also where the sink tells nothing
front_of : (hears : Type 0) (held held' lines : List ℕ) → (hears → (k : ℕ) × (held' ≡ held ++ take k lines)) → Wrote hears held held' (take (grown held held' lines) lines)
front_of hears held held' lines h told =
    let p = h told in
    let size = grown_is held held' lines p.0 p.1 in
    p.1 ∙ ap (λ (l : List ℕ). held ++ l) (sym (take_again p.0 lines) ∙ ap (λ (k : ℕ). take k lines) (sym size))

-- the lines, or a first part of them where the sink failed
pub heard_front : (hears : Type 0) (held held' : List ℕ) (rose : Type 0) (acks : List (ℕ × List ℕ)) (failed : Bool) → (hears → Heard held acks failed held') → (failed ≡ true → rose) → WroteFront (Wrote hears held held') rose (ack_lines acks)
heard_front hears held held' rose acks false h cause = inl h
heard_front hears held held' rose acks true h cause =
    let lines = ack_lines acks in
    let part = front_of hears held held' lines h in
    elim (leb_tells (length lines) (grown held held' lines)) [
      | inl all ↦ inl (λ told. part told ∙ ap (λ (l : List ℕ). held ++ l) (take_long (grown held held' lines) lines (omega (arith, all))))
      | inr cut ↦ inr (grown held held' lines, omega (arith, cut), part, cause refl)
    ]

end_long : (failed : Option ℕ) → 1 ≤ length (end_line failed)
end_long None = omega arith
end_long (Some j) = omega arith

rest_long : (tables : List (List ℕ)) (r : RunReport) (failed : Option ℕ) → 1 ≤ length (rest_text tables r failed)
rest_long tables r failed =
    let last = end_long failed in
    omega (arith, last, length-append (fate_lines 1 r.fates ++ order_lines r.order ++ row_lines tables r.tables) (end_line failed))

module _ (hears : Type 0) (held mid held' : List ℕ) (tables : List (List ℕ)) (r : RunReport) (failed : Option ℕ) where
  abbrev lines : List ℕ
  lines = ack_lines r.acks

  abbrev rest : List ℕ
  rest = rest_text tables r failed

  -- the lines of the acknowledgements, and then the rest, are the report
  pub whole_text : (hears → Heard held r.acks false mid) → Wrote hears mid held' rest → Wrote hears held held' (report_text tables r failed)
  whole_text h more told = more told ∙ ap (λ (l : List ℕ). l ++ rest) (h told) ∙ append_assoc held lines rest

  -- where the sink failed after the acknowledgements
  pub rest_cut : (k : ℕ) → k < length rest → (hears → Heard held r.acks false mid) → Wrote hears mid held' (take k rest) →
      (i : ℕ) × (i < length (report_text tables r failed)) × Wrote hears held held' (take i (report_text tables r failed))
  rest_cut k lt h more = (
    length lines + k,
    omega (arith, lt, length-append lines rest),
    λ told. more told ∙ ap (λ (l : List ℕ). l ++ take k rest) (h told) ∙ append_assoc held lines (take k rest) ∙ ap (λ (l : List ℕ). held ++ l) (sym (take-append-add lines rest k)),
  )

  -- where it failed among them
  pub lines_cut : (hears → Heard held r.acks true held') → (i : ℕ) × (i < length (report_text tables r failed)) × Wrote hears held held' (take i (report_text tables r failed))
  lines_cut h =
      let i = grown held held' lines in
      let part = front_of hears held held' lines h in
      let some = rest_long tables r failed in (
        i,
        omega (arith, some, length-append lines rest),
        λ told. part told ∙ ap (λ (l : List ℕ). held ++ l) (sym (take-append-le i lines rest (omega arith))),
      )
