-- What a sink holds, when one more is told.
use Rattle.std.proofs.Common.{ℕ, ◌+◌, ◌≤◌, ◌≡◌, ◌⊎◌, Bool, true, false, inl, inr, List, [], ◌∷◌, ◌++◌, length, take, sym, ap, subst, ◌∙◌, append_assoc, leb-true, leb-false, arith}
use Rattle.std.specs.Prelude.{nat_le}
use Rattle.std.proofs.lemmas.List.{append-nil, take-append-le, take_all}
use Rattle.std.proofs.lemmas.Grind.{flat_map-append}
use Rattle.std.proofs.Math.Seq.{take-append_seam, take-append-add}
use Rattle.std.proofs.lemmas.Bool.{cases_Bool}
use Rattle.tau_disk.specs.Disk.{Rose}
use Rattle.tau_run.specs.Heard.{Heard, HeardFront}
use Rattle.tau_report.specs.Lines.{ack_line}
use Rattle.tau_report.specs.Report.{ack_lines}

line_more : (acks : List (ℕ × List ℕ)) (a : ℕ × List ℕ) → ack_lines (acks ++ a ∷ []) ≡ ack_lines acks ++ ack_line a
line_more acks a = flat_map-append ack_line acks (a ∷ []) ∙ ap (λ (l : List ℕ). ack_lines acks ++ l) (append-nil (ack_line a))

-- a first part is one of more
front_part : (k : ℕ) (xs ys : List ℕ) → (j : ℕ) × (take j (xs ++ ys) ≡ take k xs)
front_part k xs ys = elim (cases_Bool (nat_le k (length xs))) [
  | inl e ↦ (k, take-append-le k xs ys (leb-true k (length xs) e))
  | inr e ↦ (length xs, take-append_seam xs ys ∙ sym (take_all k xs (let low = leb-false k (length xs) e in omega arith)))
]

front_more : (base : List ℕ) (acks : List (ℕ × List ℕ)) (a : ℕ × List ℕ) (held : List ℕ) → HeardFront base acks held → HeardFront base (acks ++ a ∷ []) held
front_more base acks a held q =
    let part = front_part q.0 (ack_lines acks) (ack_line a) in
    (part.0, q.1 ∙ ap (λ (l : List ℕ). base ++ l) (sym part.1) ∙ ap (λ (l : List ℕ). base ++ take part.0 l) (sym (line_more acks a)))

all_more : (base : List ℕ) (acks : List (ℕ × List ℕ)) (a : ℕ × List ℕ) (held held' : List ℕ) → held ≡ base ++ ack_lines acks → held' ≡ held ++ ack_line a → held' ≡ base ++ ack_lines (acks ++ a ∷ [])
all_more base acks a held held' was now =
    now ∙ ap (λ (l : List ℕ). l ++ ack_line a) was ∙ append_assoc base (ack_lines acks) (ack_line a) ∙ ap (λ (l : List ℕ). base ++ l) (sym (line_more acks a))

cut_more : (base : List ℕ) (acks : List (ℕ × List ℕ)) (a : ℕ × List ℕ) (held held' : List ℕ) (k : ℕ) → held ≡ base ++ ack_lines acks → held' ≡ held ++ take k (ack_line a) → HeardFront base (acks ++ a ∷ []) held'
cut_more base acks a held held' k was now = (
  length (ack_lines acks) + k,
  now ∙ ap (λ (l : List ℕ). l ++ take k (ack_line a)) was ∙ append_assoc base (ack_lines acks) (take k (ack_line a))
      ∙ ap (λ (l : List ℕ). base ++ l) (sym (take-append-add (ack_lines acks) (ack_line a) k))
      ∙ ap (λ (l : List ℕ). base ++ take (length (ack_lines acks) + k) l) (sym (line_more acks a)),
)

module _ (base : List ℕ) (acks acks' : List (ℕ × List ℕ)) (a : ℕ × List ℕ) (failed : Bool) (held : List ℕ) where
  -- one more is told to a sink that has failed before
  pub heard_none : failed ≡ true → acks' ≡ acks ++ a ∷ [] → Heard base acks failed held → Heard base acks' failed held
  heard_none fails more was =
      subst (λ (xs : List (ℕ × List ℕ)). Heard base xs failed held) (sym more)
      (subst (λ (f : Bool). Heard base (acks ++ a ∷ []) f held) (sym fails) (front_more base acks a held (subst (λ (f : Bool). Heard base acks f held) fails was)))

  module _ (held' bytes : List ℕ) (works : failed ≡ false) (more : acks' ≡ acks ++ a ∷ []) (line : bytes ≡ ack_line a) where
    -- its line was written
    pub heard_line : held' ≡ held ++ bytes → Heard base acks failed held → Heard base acks' failed held'
    heard_line now was =
        subst (λ (xs : List (ℕ × List ℕ)). Heard base xs failed held') (sym more)
        (subst (λ (f : Bool). Heard base (acks ++ a ∷ []) f held') (sym works)
        (all_more base acks a held held' (subst (λ (f : Bool). Heard base acks f held) works was) (now ∙ ap (λ (l : List ℕ). held ++ l) line)))

    -- and a part of it, where the sink failed
    pub heard_part : (k : ℕ) → held' ≡ held ++ take k bytes → Heard base acks failed held → HeardFront base acks' held'
    heard_part k now was =
        subst (λ (xs : List (ℕ × List ℕ)). HeardFront base xs held') (sym more)
        (cut_more base acks a held held' k (subst (λ (f : Bool). Heard base acks f held) works was) (now ∙ ap (λ (l : List ℕ). held ++ take k l) line))

-- one more was acknowledged, and not told
pub heard_cut : (base : List ℕ) (acks : List (ℕ × List ℕ)) (a : ℕ × List ℕ) (failed failed' : Bool) (held held' : List ℕ) → failed' ≡ failed → held' ≡ held →
    Heard base acks failed held → Heard base (take (length acks) (acks ++ a ∷ [])) failed' held'
heard_cut base acks a failed failed' held held' same still was =
    subst (λ (xs : List (ℕ × List ℕ)). Heard base xs failed' held') (sym (take-append_seam acks (a ∷ [])))
    (subst (λ (f : Bool). Heard base acks f held') (sym same) (subst (λ (l : List ℕ). Heard base acks failed l) (sym still) was))

-- that it failed now, or before, comes of its faults
pub cause_on : (failed mid last : Bool) (a b c : ℕ) → (mid ≡ true → (failed ≡ true) ⊎ Rose a b) → a ≤ b → (last ≡ true → (mid ≡ true) ⊎ Rose b c) → b ≤ c → last ≡ true → (failed ≡ true) ⊎ Rose a c
cause_on failed mid last a b c first low second high e = elim (second e) [
  | inl was ↦ elim (first was) [ inl before ↦ inl before | inr rose ↦ inr (omega (arith, rose, high)) ]
  | inr rose ↦ inr (omega (arith, rose, low))
]
