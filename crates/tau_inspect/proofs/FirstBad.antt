-- The first bad line of a text that is no report's: where its sections stop.
use Rattle.std.proofs.Common.{ℕ, zero, suc, ◌+◌, ◌-◌, ◌^◌, ◌<◌, ◌≡◌, ◌==◌, Bool, true, false, List, [], ◌∷◌, ◌++◌, inl, inr, length, take, replicate, refl, sym, ap, subst, ◌∙◌, append_assoc, arith, Option}
use Rattle.std.specs.Prelude.{None, All, count_by, Err}
use Rattle.std.specs.List.{flat_map, AllByRecursion}
use Rattle.std.proofs.lemmas.Bool.Decides.{nat_tests}
use Rattle.std.proofs.Math.Seq.{take-append_seam}
use Rattle.std.proofs.lemmas.List.{append-nil, length-append, length-replicate}
use Rattle.std.proofs.lemmas.List.Concat.{flat_map-cons}
use Rattle.std.proofs.lemmas.List.Elements.{recursion_from_All, All-from_recursion}
use Rattle.tau_base.specs.declared.value.Key.{Key}
use Rattle.tau_base.specs.declared.value.Value.{Value}
use Rattle.tau_report.specs.declared.report.Fate.{Fate}
use Rattle.tau_report.specs.declared.report.Fate.TheVariants.{Unrun}
use Rattle.tau_report.specs.declared.report.RunReport.{RunReport}
use Rattle.tau_report.specs.Lines.{ack_line, fate_line, order_line, row_line, end_line}
use Rattle.tau_report.specs.Report.{ack_lines, fate_lines, order_lines, row_lines}
use Rattle.tau_inspect.specs.declared.refusal.ReportRefusal.{ReportRefusal}
use Rattle.tau_inspect.specs.declared.refusal.ReportRefusal.TheVariants.{NoMemory, Bad}
use Rattle.tau_inspect.specs.Bodies.{end_body, fate_body, order_body, row_body, IsEnd}
use Rattle.tau_inspect.specs.Parts.{lacks}
use Rattle.tau_inspect.specs.ReportFor.{IsCall, IsFate}
use Rattle.tau_inspect.specs.ReportRead.{NamesLine, IsReadOf}
use Rattle.tau_inspect.specs.RunText.{AreLines, MayBegin, IsFirstBad, IsTextOf}
use Rattle.tau_inspect.specs.Sections.{AreAcks, AreFates, AreOrders, AreRows, AcksFit, RowsFit, BeginsAlike, Stops, StopsFates, StopsEnd}
use Rattle.tau_inspect.proofs.Cutting.{cut_one}
use Rattle.tau_inspect.proofs.Leaving.{begins, at_rows, at_end, told_body}
use Rattle.tau_inspect.proofs.ReadSections.{end_is, end_lacks, fate_is, report_told, no_rows, no_orders}

-- ---- lines

pub lines_both : (a b : List ℕ) → AreLines a → AreLines b → AreLines (a ++ b)
lines_both a b whole (inl none) = subst AreLines (sym (ap (λ (l : List ℕ). a ++ l) none ∙ append-nil a)) whole
lines_both a b whole (inr w) = inr (a ++ w.0, ap (λ (l : List ℕ). a ++ l) w.1 ∙ sym (append_assoc a w.0 (10 ∷ [])))

flat_lines : {A : Type 0} (f body : A → List ℕ) → ((a : A) → f a ≡ body a ++ 10 ∷ []) → (xs : List A) → AreLines (flat_map f xs)
flat_lines f body is [] = inl refl
flat_lines f body is (x ∷ xs) = subst AreLines (sym (flat_map-cons f x xs)) (lines_both (f x) (flat_map f xs) (inr (body x, is x)) (flat_lines f body is xs))

told_lines : (k : ℕ) (fs : List Fate) → AreLines (fate_lines k fs)
told_lines k [] = inl refl
told_lines k (f ∷ fs) = lines_both (fate_line k f) (fate_lines (k + 1) fs) (inr (fate_body k f, fate_is k f)) (told_lines (k + 1) fs)

-- ---- texts that begin alike

record FirstLine (text : List ℕ) : Type 0 where
  line : List ℕ
  rest : List ℕ
  is : text ≡ line ++ 10 ∷ rest
  one : lacks 10 line ≡ true

first_by : (b : ℕ) (front : List ℕ) (t : Bool) → (b == 10) ≡ t → FirstLine (front ++ 10 ∷ []) → FirstLine (b ∷ front ++ 10 ∷ [])
first_by b front true e w = (let same : b ≡ 10 = grind (arith, nat_tests) in record { line = []; rest = front ++ 10 ∷ []; is = ap (λ (c : ℕ). c ∷ front ++ 10 ∷ []) same; one = refl })
first_by b front false e w = record { line = b ∷ w.line; rest = w.rest; is = ap (λ (l : List ℕ). b ∷ l) w.is; one = rw (e, w.one) refl }

first_line : (front : List ℕ) → FirstLine (front ++ 10 ∷ [])
first_line [] = record { line = []; rest = []; is = refl; one = refl }
first_line (b ∷ front) = first_by b front (b == 10) refl (first_line front)

-- the first line stands before what comes after them
alike_line : (front x y : List ℕ) → BeginsAlike ((front ++ 10 ∷ []) ++ x) ((front ++ 10 ∷ []) ++ y)
alike_line front x y =
    let w = first_line front in
    let with_rest : (z : List ℕ) → (front ++ 10 ∷ []) ++ z ≡ w.line ++ 10 ∷ (w.rest ++ z) = λ z. ap (λ (l : List ℕ). l ++ z) w.is ∙ append_assoc w.line (10 ∷ w.rest) z in
    record {
      line = λ line rest l.
          let cut = cut_one 10 w.line line (w.rest ++ y) rest w.one l.one (sym (with_rest y) ∙ l.is) in
          (w.rest ++ x, record { is = with_rest x ∙ ap (λ (k : List ℕ). k ++ 10 ∷ (w.rest ++ x)) cut.0; one = l.one });
      empty = λ e. absurd (let long = ap length (sym (with_rest y) ∙ e) ∙ refl in omega (arith, long, length-append w.line (10 ∷ (w.rest ++ y))));
    }

pub alike_after : (front x y : List ℕ) → AreLines front → BeginsAlike x y → BeginsAlike (front ++ x) (front ++ y)
alike_after front x y (inl none) alike = subst (λ (l : List ℕ). BeginsAlike (l ++ x) (l ++ y)) (sym none) alike
alike_after front x y (inr w) alike = subst (λ (l : List ℕ). BeginsAlike (l ++ x) (l ++ y)) (sym w.1) (alike_line w.0 x y)

pub alike_self : (text : List ℕ) → BeginsAlike text text
alike_self text = record { line = λ line rest l. (rest, l); empty = λ e. e }

-- ---- the line that is named

pub front_of : (text front back : List ℕ) → text ≡ front ++ back → take (length text - length back) text ≡ front
front_of text front back e =
    let long : length text - length back ≡ length front = (let l = ap length e ∙ length-append front back in omega (arith, l)) in
    ap (λ (k : ℕ). take k text) long ∙ ap (λ (l : List ℕ). take (length front) l) e ∙ take-append_seam front back

pub refused : (tables : List (List ℕ)) (n calls : ℕ) (text front back : List ℕ) (refusal : ReportRefusal) → text ≡ front ++ back → NamesLine (count_by (λ b. b == 10) (take (length text - length back) text) + 1) refusal →
    ((number : ℕ) → number ≡ count_by (λ b. b == 10) front + 1 → IsFirstBad tables n calls text number) → IsReadOf tables n calls text (Err refusal)
refused tables n calls text front back NoMemory e names bad = tt
refused tables n calls text front back (Bad line) e names bad = bad line (names ∙ ap (λ (l : List ℕ). count_by (λ b. b == 10) l + 1) (front_of text front back e))

-- ---- where reading stops

module _ (tables : List (List ℕ)) (n calls : ℕ) where
  -- no text of a run begins with these lines and goes on as the rest begins
  abbrev pub Stuck : List ℕ → List ℕ → Type 0
  Stuck front back = (other : List ℕ) → BeginsAlike back other → (r : RunReport) (failed : Option ℕ) → IsTextOf tables n calls r failed (front ++ other) → ⊥

  pub is_first_bad : (text front back : List ℕ) (number : ℕ) → text ≡ front ++ back → AreLines front → MayBegin tables n calls front → Stuck front back → number ≡ count_by (λ b. b == 10) front + 1 → IsFirstBad tables n calls text number
  is_first_bad text front back number there whole may stuck counted = record {
    front = front;
    back = back;
    there = there;
    whole = whole;
    counted = counted;
    begins = may;
    bad = λ line rest is one m.
        stuck (line ++ 10 ∷ m.rest)
        (subst (λ (b : List ℕ). BeginsAlike b (line ++ 10 ∷ m.rest)) (append_assoc line (10 ∷ []) rest ∙ sym is) (subst (λ (b : List ℕ). BeginsAlike ((line ++ 10 ∷ []) ++ rest) b) (append_assoc line (10 ∷ []) m.rest) (alike_line line rest m.rest)))
        m.report m.failed (subst (IsTextOf tables n calls m.report m.failed) (append_assoc (front ++ line) (10 ∷ []) m.rest ∙ append_assoc front line (10 ∷ m.rest)) m.text);
    none = λ r failed t. stuck back (alike_self back) r failed (subst (IsTextOf tables n calls r failed) there t);
  }

  -- ---- not all calls are told

  module _ (text a f : List ℕ) (acks : List (ℕ × List ℕ)) (fates : List Fate) (acked : AreAcks calls n text acks a) (acks_stop : Stops ack_line (AcksFit calls n) 97 acks a) (told : AreFates a fates f) (fates_stop : StopsFates calls fates f) where
    abbrev told_front : List ℕ
    told_front = ack_lines acks ++ fate_lines 1 fates

    told_whole : AreLines told_front
    told_whole = lines_both (ack_lines acks) (fate_lines 1 fates) (flat_lines ack_line told_body (λ b. refl) acks) (told_lines 1 fates)

    -- a text of a run with all that was read begins with the fates of all its calls
    all_told : (other : List ℕ) → BeginsAlike f other → (r : RunReport) (failed : Option ℕ) → IsTextOf tables n calls r failed (ack_lines acks ++ (fate_lines 1 fates ++ other)) →
        (length fates ≡ calls) × (other ≡ order_lines r.order ++ (row_lines tables r.tables ++ end_line failed))
    all_told other alike r failed t =
        let ahead : BeginsAlike a (fate_lines 1 fates ++ other) = subst (λ (l : List ℕ). BeginsAlike l (fate_lines 1 fates ++ other)) (sym told.told) (alike_after (fate_lines 1 fates) f other (told_lines 1 fates) alike) in
        fates_stop other (order_lines r.order ++ (row_lines tables r.tables ++ end_line failed)) alike
        (begins tables n calls (ack_lines acks ++ (fate_lines 1 fates ++ other)) r failed t (fate_lines 1 fates ++ other) (acks_stop (fate_lines 1 fates ++ other) ahead))

    module _ (lt : length fates < calls) where
      told_stuck : Stuck told_front f
      told_stuck other alike r failed t = (let w = all_told other alike r failed (subst (IsTextOf tables n calls r failed) (append_assoc (ack_lines acks) (fate_lines 1 fates) other) t) in omega (arith, w.0, lt))

      abbrev unruns : List Fate
      unruns = replicate (calls - length fates) Unrun

      fates_append : (k : ℕ) (xs ys : List Fate) → fate_lines k (xs ++ ys) ≡ fate_lines k xs ++ fate_lines (k + length xs) ys
      fates_append k [] ys = ap (λ (j : ℕ). fate_lines j ys) (omega arith)
      fates_append k (x ∷ xs) ys =
          ap (λ (l : List ℕ). fate_line k x ++ l) (fates_append (k + 1) xs ys ∙ ap (λ (j : ℕ). fate_lines (k + 1) xs ++ fate_lines j ys) (omega arith)) ∙ sym (append_assoc (fate_line k x) (fate_lines (k + 1) xs) (fate_lines (k + length (x ∷ xs)) ys))

      unruns_fit : (k : ℕ) → AllByRecursion IsFate (replicate k Unrun)
      unruns_fit zero = tt
      unruns_fit (suc k) = (tt, unruns_fit k)

      all_fit : (xs ys : List Fate) → AllByRecursion IsFate xs → AllByRecursion IsFate ys → AllByRecursion IsFate (xs ++ ys)
      all_fit [] ys p q = q
      all_fit (x ∷ xs) ys p q = (p.0, all_fit xs ys p.1 q)

      abbrev after_told : List ℕ
      after_told = fate_lines (1 + length fates) unruns ++ end_line None

      -- the report in which the other calls did not run
      abbrev told_report : RunReport
      told_report = record { acks = acks; fates = fates ++ unruns; order = []; tables = [] }

      told_begins : MayBegin tables n calls told_front
      told_begins =
          let rest_is : told_front ++ after_told ≡ ack_lines acks ++ (fate_lines 1 (fates ++ unruns) ++ end_line None) =
          append_assoc (ack_lines acks) (fate_lines 1 fates) after_told
          ∙ ap (λ (l : List ℕ). ack_lines acks ++ l) (sym (append_assoc (fate_lines 1 fates) (fate_lines (1 + length fates) unruns) (end_line None)) ∙ ap (λ (l : List ℕ). l ++ end_line None) (sym (fates_append 1 fates unruns))) in
          let many : length (fates ++ unruns) ≡ calls = length-append fates unruns ∙ ap (λ (k : ℕ). length fates + k) (length-replicate (calls - length fates) Unrun) ∙ omega (arith, lt) in
          let is = report_told tables n calls (told_front ++ after_told) told_report (fate_lines 1 (fates ++ unruns) ++ end_line None) (end_line None) (end_line None) (end_line None)
          (record { told = rest_is; numbers = acked.numbers; vectors = acked.vectors; once = acked.once }) many
          (record { told = refl; fit = All-from_recursion IsFate (fates ++ unruns) (all_fit fates unruns (recursion_from_All IsFate fates told.fit) (unruns_fit (calls - length fates))) })
          (no_orders calls (end_line None)) (no_rows tables (end_line None)) (None, tt, refl) in
          record { report = told_report; failed = is.0; rest = after_told; text = is.1 }

      told_is : text ≡ told_front ++ f
      told_is = acked.told ∙ ap (λ (l : List ℕ). ack_lines acks ++ l) told.told ∙ sym (append_assoc (ack_lines acks) (fate_lines 1 fates) f)

      pub told_refused : (refusal : ReportRefusal) → NamesLine (count_by (λ b. b == 10) (take (length text - length f) text) + 1) refusal → IsReadOf tables n calls text (Err refusal)
      told_refused refusal names = refused tables n calls text told_front f refusal told_is names (λ number counted. is_first_bad text told_front f number told_is told_whole told_begins told_stuck counted)

    -- ---- no end where it must come, or something after it

    module _ (o w : List ℕ) (order : List ℕ) (rows : List (Key × Value)) (many : length fates ≡ calls) (ordered : AreOrders calls f order o) (orders_stop : Stops order_line (All (IsCall calls)) 111 order o) (rowed : AreRows tables o rows w) (rows_stop : Stops (row_line tables) (RowsFit (length tables)) 114 rows w) where
      abbrev pub all_front : List ℕ
      all_front = ack_lines acks ++ (fate_lines 1 fates ++ (order_lines order ++ row_lines tables rows))

      row_whole : AreLines (row_lines tables rows)
      row_whole = flat_lines (row_line tables) (row_body tables) (λ b. refl) rows

      order_whole : AreLines (order_lines order)
      order_whole = flat_lines order_line order_body (λ b. refl) order

      all_whole : AreLines all_front
      all_whole =
          lines_both (ack_lines acks) (fate_lines 1 fates ++ (order_lines order ++ row_lines tables rows)) (flat_lines ack_line told_body (λ b. refl) acks)
          (lines_both (fate_lines 1 fates) (order_lines order ++ row_lines tables rows) (told_lines 1 fates) (lines_both (order_lines order) (row_lines tables rows) order_whole row_whole))

      with_rest : (z : List ℕ) → all_front ++ z ≡ ack_lines acks ++ (fate_lines 1 fates ++ (order_lines order ++ (row_lines tables rows ++ z)))
      with_rest z =
          append_assoc (ack_lines acks) (fate_lines 1 fates ++ (order_lines order ++ row_lines tables rows)) z
          ∙ ap (λ (l : List ℕ). ack_lines acks ++ l) (append_assoc (fate_lines 1 fates) (order_lines order ++ row_lines tables rows) z ∙ ap (λ (l : List ℕ). fate_lines 1 fates ++ l) (append_assoc (order_lines order) (row_lines tables rows) z))

      pub all_is : text ≡ all_front ++ w
      all_is =
          acked.told ∙ ap (λ (l : List ℕ). ack_lines acks ++ l) (told.told ∙ ap (λ (l : List ℕ). fate_lines 1 fates ++ l) (ordered.told ∙ ap (λ (l : List ℕ). order_lines order ++ l) rowed.told))
          ∙ sym (with_rest w)

      -- what comes after all this in a text of a run is its end
      all_end : (other : List ℕ) → BeginsAlike w other → (r : RunReport) (failed : Option ℕ) → IsTextOf tables n calls r failed (all_front ++ other) → (failed' : Option ℕ) × IsEnd n failed' × (other ≡ end_line failed')
      all_end other alike r failed t =
          let o' : List ℕ = row_lines tables rows ++ other in
          let f' : List ℕ = order_lines order ++ o' in
          let ahead_o : BeginsAlike o o' = subst (λ (l : List ℕ). BeginsAlike l o') (sym rowed.told) (alike_after (row_lines tables rows) w other row_whole alike) in
          let ahead_f : BeginsAlike f f' = subst (λ (l : List ℕ). BeginsAlike l f') (sym ordered.told) (alike_after (order_lines order) o o' order_whole ahead_o) in
          let t' : IsTextOf tables n calls r failed (ack_lines acks ++ (fate_lines 1 fates ++ f')) = subst (IsTextOf tables n calls r failed) (with_rest other) t in
          let f_is : f' ≡ order_lines r.order ++ (row_lines tables r.tables ++ end_line failed) = (all_told f' ahead_f r failed t').1 in
          let o_is : o' ≡ row_lines tables r.tables ++ end_line failed = orders_stop o' ahead_o r.order (row_lines tables r.tables ++ end_line failed) t.report.order f_is (at_rows tables n calls (all_front ++ other) r failed t) in
          (failed, t.ended, rows_stop other alike r.tables (end_line failed) (record { fit = t.report.rows; ascending = t.report.ascending }) o_is (at_end tables n calls (all_front ++ other) r failed t))

      abbrev all_report : RunReport
      all_report = record { acks = acks; fates = fates; order = order; tables = rows }

      all_told_so : (failed : Option ℕ) → IsEnd n failed → (ended : Option ℕ) × IsTextOf tables n calls all_report ended (all_front ++ end_line failed)
      all_told_so failed fits =
          report_told tables n calls (all_front ++ end_line failed) all_report (fate_lines 1 fates ++ (order_lines order ++ (row_lines tables rows ++ end_line failed))) (order_lines order ++ (row_lines tables rows ++ end_line failed)) (row_lines tables rows ++ end_line failed) (end_line failed)
          (record { told = with_rest (end_line failed); numbers = acked.numbers; vectors = acked.vectors; once = acked.once }) many (record { told = refl; fit = told.fit })
          (record { told = refl; numbers = ordered.numbers }) (record { told = refl; fit = rowed.fit; ascending = rowed.ascending }) (failed, fits, refl)

      all_begins : MayBegin tables n calls all_front
      all_begins = (let is = all_told_so None tt in record { report = all_report; failed = is.0; rest = end_line None; text = is.1 })

      all_stuck : StopsEnd n w → n < 2 ^ 8 → Stuck all_front w
      all_stuck none small other alike r failed t =
          let e = all_end other alike r failed t in
          let l = alike.line (end_body e.0) [] (record { is = e.2 ∙ end_is e.0; one = end_lacks n e.0 small e.1 }) in
          none e.0 l.0 e.1 (l.1.is ∙ sym (append_assoc (end_body e.0) (10 ∷ []) l.0) ∙ ap (λ (k : List ℕ). k ++ l.0) (sym (end_is e.0)))

      pub no_end_refused : StopsEnd n w → n < 2 ^ 8 → (refusal : ReportRefusal) → NamesLine (count_by (λ b. b == 10) (take (length text - length w) text) + 1) refusal → IsReadOf tables n calls text (Err refusal)
      no_end_refused none small refusal names = refused tables n calls text all_front w refusal all_is names (λ number counted. is_first_bad text all_front w number all_is all_whole all_begins (all_stuck none small) counted)

      module _ (failed : Option ℕ) (fits : IsEnd n failed) (more : List ℕ) (small : n < 2 ^ 8) (w_is : w ≡ end_line failed ++ more) where
        end_whole : AreLines (end_line failed)
        end_whole = inr (end_body failed, end_is failed)

        ended_begins : MayBegin tables n calls (all_front ++ end_line failed)
        ended_begins = (let is = all_told_so failed fits in record { report = all_report; failed = is.0; rest = []; text = subst (IsTextOf tables n calls all_report is.0) (sym (append-nil (all_front ++ end_line failed))) is.1 })

        pub ended_is : text ≡ (all_front ++ end_line failed) ++ more
        ended_is = all_is ∙ ap (λ (l : List ℕ). all_front ++ l) w_is ∙ sym (append_assoc all_front (end_line failed) more)

        ended_stuck : (more ≡ [] → ⊥) → Stuck (all_front ++ end_line failed) more
        ended_stuck some other alike r q t =
            let ahead : BeginsAlike w (end_line failed ++ other) = subst (λ (l : List ℕ). BeginsAlike l (end_line failed ++ other)) (sym w_is) (alike_after (end_line failed) more other end_whole alike) in
            let e = all_end (end_line failed ++ other) ahead r q (subst (IsTextOf tables n calls r q) (append_assoc all_front (end_line failed) other) t) in
            let spelled : end_body failed ++ 10 ∷ other ≡ end_body e.0 ++ 10 ∷ [] = sym (append_assoc (end_body failed) (10 ∷ []) other) ∙ ap (λ (l : List ℕ). l ++ other) (sym (end_is failed)) ∙ e.2 ∙ end_is e.0 in
            some (alike.empty (cut_one 10 (end_body failed) (end_body e.0) other [] (end_lacks n failed small fits) (end_lacks n e.0 small e.1) spelled).1)

        pub more_refused : (more ≡ [] → ⊥) → (refusal : ReportRefusal) → NamesLine (count_by (λ b. b == 10) (take (length text - length more) text) + 1) refusal → IsReadOf tables n calls text (Err refusal)
        more_refused some refusal names =
            refused tables n calls text (all_front ++ end_line failed) more refusal ended_is names
            (λ number counted. is_first_bad text (all_front ++ end_line failed) more number ended_is (lines_both all_front (end_line failed) all_whole end_whole) ended_begins (ended_stuck some) counted)
