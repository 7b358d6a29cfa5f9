-- The lines of an inspection, one record or stream more at a time, and the lowest component that is not covered.
use Rattle.std.proofs.Common.{ℕ, zero, suc, ◌≡◌, ◌↔◌, ◌+◌, ◌<◌, ◌≤◌, true, false, ◌&&◌, ◌⊎◌, inl, inr, List, [], ◌∷◌, ◌++◌, drop, length, refl, sym, ap, subst, ◌∙◌, append_assoc, add-one, drop-cons, get_or, arith, Option}
use Rattle.std.specs.Prelude.{Some, None, nat_le, slice_index}
use Rattle.std.proofs.lemmas.Bool.{cases_Bool, both_ways, and_parts}
use Rattle.std.proofs.lemmas.Bool.Decides.{nat_tests}
use Rattle.std.proofs.lemmas.List.{append-nil, drop_all}
use Rattle.std.specs.List.{join_with_byte}
use Rattle.tau_report.specs.Lines.{line}
use Rattle.tau_inspect.specs.Spaced.{spaced}
use Rattle.tau_base.specs.Vectors.{covers}
use Rattle.tau_record.specs.declared.entry.Placed.{Placed}
use Rattle.tau_record.specs.Record.{epoch_after}
use Rattle.tau_inspect.specs.Inspection.{uncovered_from, record_line, stream_lines, streams_lines, UncoveredIsLowest}

pub record_more : (judge : ℕ → List ℕ) (j k : ℕ) (ps : List Placed) (i : ℕ) (d : Placed) → i < length ps →
    stream_lines judge j k (drop i ps) ≡ record_line (judge k) j (get_or ps i d) ++ stream_lines judge j (epoch_after k (get_or ps i d).entry) (drop (i + 1) ps)
record_more judge j k ps i d lt = rw add-one (ap (λ (qs : List Placed). stream_lines judge j k qs) (drop-cons ps i d lt))

-- one record more is told
pub record_told : (judge : ℕ → List ℕ) (j k : ℕ) (ps : List Placed) (i : ℕ) (p : Placed) (lv whole out now : List ℕ) → i < length ps → p ≡ get_or ps i p → lv ≡ judge k → whole ≡ out ++ stream_lines judge j k (drop i ps) →
    now ≡ out ++ record_line lv j p → whole ≡ now ++ stream_lines judge j (epoch_after k p.entry) (drop (i + 1) ps)
record_told judge j k ps i p lv whole out now lt at lv_is so_far now_is =
    so_far
    ∙ ap (λ (l : List ℕ). out ++ l) (record_more judge j k ps i p lt ∙ ap (λ (q : Placed). record_line (judge k) j q ++ stream_lines judge j (epoch_after k q.entry) (drop (i + 1) ps)) (sym at))
    ∙ sym (append_assoc out (record_line (judge k) j p) (stream_lines judge j (epoch_after k p.entry) (drop (i + 1) ps)))
    ∙ ap (λ (l : List ℕ). (out ++ record_line l j p) ++ stream_lines judge j (epoch_after k p.entry) (drop (i + 1) ps)) (sym lv_is)
    ∙ ap (λ (l : List ℕ). l ++ stream_lines judge j (epoch_after k p.entry) (drop (i + 1) ps)) (sym now_is)

pub records_told : (judge : ℕ → List ℕ) (j k : ℕ) (ps : List Placed) (i : ℕ) (whole out : List ℕ) → length ps ≤ i → whole ≡ out ++ stream_lines judge j k (drop i ps) → out ≡ whole
records_told judge j k ps i whole out le so_far = sym (so_far ∙ ap (λ (l : List Placed). out ++ stream_lines judge j k l) (drop_all i ps le) ∙ append-nil out)

pub stream_more : (judge : ℕ → List ℕ) (streams : List (List Placed)) (i : ℕ) (d : List Placed) → i < length streams →
    streams_lines judge i (drop i streams) ≡ stream_lines judge i 0 (get_or streams i d) ++ streams_lines judge (i + 1) (drop (i + 1) streams)
stream_more judge streams i d lt = rw add-one (ap (λ (ps : List (List Placed)). streams_lines judge i ps) (drop-cons streams i d lt))

-- ---- the lowest component

abbrev tail : List ℕ → List ℕ
tail [] = []
tail (x ∷ xs) = xs

tail_at : (xs : List ℕ) (i : ℕ) → slice_index (tail xs) i ≡ slice_index xs (suc i)
tail_at [] i = refl
tail_at (x ∷ xs) i = refl

covers_cons : (xs : List ℕ) (a : ℕ) (dep : List ℕ) → covers xs (a ∷ dep) ≡ (nat_le a (slice_index xs 0) && covers (tail xs) dep)
covers_cons [] a dep = refl
covers_cons (x ∷ xs) a dep = refl

-- the components from number n on, against the positions from there on
below_first : (n : ℕ) (judge rest : List ℕ) → ((i : ℕ) → slice_index rest i ≡ slice_index judge (n + i)) → (dep : List ℕ) →
    ((covers rest dep ≡ true) ↔ (uncovered_from n judge dep ≡ None))
    × ((j : ℕ) → uncovered_from n judge dep ≡ Some j → (k : ℕ) × (j ≡ n + k) × (slice_index rest k < slice_index dep k) × ((i : ℕ) → i < k → slice_index dep i ≤ slice_index rest i))
below_first n judge rest same [] = ((λ _. refl, λ _. refl), λ j e. absurd (no_some j e))
  where
    no_some : (j : ℕ) → ◌≡◌ {A = Option ℕ} None (Some j) → ⊥
    no_some j e = cc
below_first n judge rest same (a ∷ dep) = by_test (below_first (suc n) judge (tail rest) (λ i. tail_at rest i ∙ same (suc i) ∙ ap (slice_index judge) (omega arith)) dep) (cases_Bool (nat_le a (slice_index judge n)))
  where
    here : slice_index rest 0 ≡ slice_index judge n
    here = same 0 ∙ ap (slice_index judge) (omega arith)

    by_test : (((covers (tail rest) dep ≡ true) ↔ (uncovered_from (suc n) judge dep ≡ None))
        × ((j : ℕ) → uncovered_from (suc n) judge dep ≡ Some j → (k : ℕ) × (j ≡ suc n + k) × (slice_index (tail rest) k < slice_index dep k) × ((i : ℕ) → i < k → slice_index dep i ≤ slice_index (tail rest) i))) →
        (nat_le a (slice_index judge n) ≡ true) ⊎ (nat_le a (slice_index judge n) ≡ false) →
        ((covers rest (a ∷ dep) ≡ true) ↔ (uncovered_from n judge (a ∷ dep) ≡ None))
        × ((j : ℕ) → uncovered_from n judge (a ∷ dep) ≡ Some j → (k : ℕ) × (j ≡ n + k) × (slice_index rest k < slice_index (a ∷ dep) k) × ((i : ℕ) → i < k → slice_index (a ∷ dep) i ≤ slice_index rest i))
    by_test more (inl is) =
        let test : nat_le a (slice_index rest 0) ≡ true = ap (nat_le a) here ∙ is in
        let low : a ≤ slice_index rest 0 = grind (arith, nat_tests) in (
          (
            λ e. rw is (more.0.0 ((and_parts (nat_le a (slice_index rest 0)) (covers (tail rest) dep) (sym (covers_cons rest a dep) ∙ e)).1)),
            λ e. covers_cons rest a dep ∙ rw (test, more.0.1 (rw is at e)) refl,
          ),
          λ j e. let w = more.1 j (rw is at e) in (
            suc w.0,
            w.1 ∙ omega arith,
            subst (λ x. x < slice_index dep w.0) (tail_at rest w.0) w.2,
            λ i lt. lower w.0 w.3 low i lt,
          ),
        )
      where
        lower : (k : ℕ) → ((i : ℕ) → i < k → slice_index dep i ≤ slice_index (tail rest) i) → a ≤ slice_index rest 0 → (i : ℕ) → i < suc k → slice_index (a ∷ dep) i ≤ slice_index rest i
        lower k h low zero lt = low
        lower k h low (suc i) lt = subst (λ x. slice_index dep i ≤ x) (tail_at rest i) (h i (omega (arith, lt)))
    by_test more (inr is) =
        let test : nat_le a (slice_index rest 0) ≡ false = ap (nat_le a) here ∙ is in
        let high : slice_index rest 0 < a = grind (arith, nat_tests) in (
          (
            λ e. absurd (both_ways (nat_le a (slice_index rest 0)) test ((and_parts (nat_le a (slice_index rest 0)) (covers (tail rest) dep) (sym (covers_cons rest a dep) ∙ e)).0)),
            λ e. absurd (some_none (sym (rw is at e))),
          ),
          λ j e. (0, sym (some_one j (rw is at e)) ∙ omega arith, high, λ i lt. absurd (omega (arith, lt))),
        )
      where
        some_none : ◌≡◌ {A = Option ℕ} None (Some n) → ⊥
        some_none e = cc

        some_one : (j : ℕ) → ◌≡◌ {A = Option ℕ} (Some n) (Some j) → n ≡ j
        some_one j e = cc

pub uncovered_is_lowest : UncoveredIsLowest
uncovered_is_lowest judge dep =
    let w = below_first 0 judge judge (λ i. ap (slice_index judge) (omega arith)) dep in
    record {
      taken = w.0;
      lowest = λ j e. let k = w.1 j e in subst (λ (x : ℕ). (slice_index judge x < slice_index dep x) × ((i : ℕ) → i < x → slice_index dep i ≤ slice_index judge i)) (sym (k.1 ∙ omega arith)) (k.2, k.3);
    }

-- ---- a line of a call's record

joined : (w : List ℕ) (ws : List (List ℕ)) → join_with_byte 32 (w ∷ ws) ≡ w ++ spaced ws
joined w [] = sym (append-nil w)
joined w (v ∷ ws) = ap (λ (l : List ℕ). w ++ 32 ∷ l) (joined v ws)

spaced_append : (ws vs : List (List ℕ)) → spaced (ws ++ vs) ≡ spaced ws ++ spaced vs
spaced_append [] vs = refl
spaced_append (w ∷ ws) vs = ap (λ (l : List ℕ). 32 ∷ w ++ l) (spaced_append ws vs) ∙ sym (append_assoc (32 ∷ w) (spaced ws) (spaced vs))

in_row : (a b c d e f g : List ℕ) → a ++ ((b ++ (c ++ (d ++ (e ++ f)))) ++ g) ≡ ((((a ++ b ++ c) ++ d) ++ e) ++ f) ++ g
in_row a b c d e f g = simp append_assoc

pub call_put : (old word d s p n v : List ℕ) (js : List (List ℕ)) (out : List ℕ) →
    out ≡ ((((old ++ word ++ spaced (d ∷ s ∷ p ∷ [])) ++ 32 ∷ n) ++ 32 ∷ v) ++ spaced js) ++ 10 ∷ [] → out ≡ old ++ line (word ∷ d ∷ s ∷ p ∷ n ∷ v ∷ js)
call_put old word d s p n v js out is = is ∙ sym (ap (λ (l : List ℕ). old ++ (l ++ 10 ∷ [])) (joined word (d ∷ s ∷ p ∷ n ∷ v ∷ js)) ∙ flat)
  where
    flat : old ++ ((word ++ spaced (d ∷ s ∷ p ∷ n ∷ v ∷ js)) ++ 10 ∷ []) ≡ ((((old ++ word ++ spaced (d ∷ s ∷ p ∷ [])) ++ 32 ∷ n) ++ 32 ∷ v) ++ spaced js) ++ 10 ∷ []
    flat =
        ap (λ (l : List ℕ). old ++ ((word ++ l) ++ 10 ∷ [])) (spaced_append (d ∷ s ∷ p ∷ []) (n ∷ v ∷ js))
        ∙ in_row old word (spaced (d ∷ s ∷ p ∷ [])) (32 ∷ n) (32 ∷ v) (spaced js) (10 ∷ [])
