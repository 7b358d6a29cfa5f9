-- Pieces in order.
use Rattle.std.proofs.Common.{ℕ, zero, suc, ◌+◌, ◌≤◌, ◌<◌, ◌≡◌, true, List, [], ◌∷◌, ◌++◌, length, arith, refl, ap, subst, ◌∙◌, inl, inr, eqb-true, eq-eqb, leb-true, le-leb, length-append}
use Rattle.std.specs.Prelude.{Some, None, slice_get, ◌==◌, ◌⊎◌, nat_le}
use Rattle.std.proofs.lemmas.Bool.{cases_Bool, and_parts, and_from}
use Rattle.tau_base.specs.declared.limits.TheConstants.{MAX_LSN, MAX_BODY}
use Rattle.tau_outbox.specs.declared.Piece.{Piece}
use Rattle.tau_outbox.specs.Pieces.{past_of, bytes_of, end_of, InOrder}
use Rattle.tau_outbox.specs.Gather.{Continues, Stops, Gathers, fits, run, left, front_piece, others}

pub lower : (low : ℕ) (ps : List Piece) → InOrder low ps → InOrder 0 ps
lower low [] h = tt
lower low (p ∷ ps) h = (omega arith, h.1, h.2)

pub put_last : (low : ℕ) (ps : List Piece) (p : Piece) → InOrder low ps → end_of low ps ≤ p.start → past_of p < MAX_LSN → InOrder low (ps ++ p ∷ [])
put_last low [] p h at small = (at, small, tt)
put_last low (q ∷ ps) p h at small = (h.0, h.1, put_last (past_of q) ps p h.2 at small)

pub past_small : (low : ℕ) (ps : List Piece) (i : ℕ) (p : Piece) → InOrder low ps → slice_get ps i ≡ Some p → past_of p < MAX_LSN
past_small low [] i p h at = cc
past_small low (q ∷ ps) zero p h at = let e : q ≡ p = cc in rw (← e) h.1
past_small low (q ∷ ps) (suc i) p h at = past_small (past_of q) ps i p h.2 at

pub order_others : (to used low : ℕ) (ps : List Piece) → InOrder low ps → InOrder 0 (others to used ps)
order_others to used low [] h = tt
order_others to used low (p ∷ ps) h = elim (cases_Bool (fits to used p)) [
  | inl is ↦ rw is (lower (past_of p) ps h.2)
  | inr no' ↦ rw no' (lower low (p ∷ ps) h)
]

pub order_left : (to used low : ℕ) (ps : List Piece) → InOrder low ps → InOrder 0 (left to used ps)
order_left to used low [] h = tt
order_left to used low (p ∷ ps) h = elim (cases_Bool (fits to used p)) [
  | inl is ↦ rw is (order_left (to + length p.bytes) (used + length p.bytes) (past_of p) ps h.2)
  | inr no' ↦ rw no' (lower low (p ∷ ps) h)
]

-- one piece of a run
pub run_step : (to used : ℕ) (ps : List Piece) (p : Piece) → Some p ≡ front_piece to used ps →
    (left to used ps ≡ left (to + length p.bytes) (used + length p.bytes) (others to used ps))
    × (run to used ps ≡ p ∷ run (to + length p.bytes) (used + length p.bytes) (others to used ps))
run_step to used [] p at = cc
run_step to used (q ∷ ps) p at = elim (cases_Bool (fits to used q)) [
  | inl is ↦
      let e : q ≡ p = (let here : Some p ≡ Some q = rw is at at in cc) in
      subst (λ (y : Piece). (left to used (q ∷ ps) ≡ left (to + length y.bytes) (used + length y.bytes) (others to used (q ∷ ps)))
      × (run to used (q ∷ ps) ≡ y ∷ run (to + length y.bytes) (used + length y.bytes) (others to used (q ∷ ps)))) e (rw is (refl, refl))
  | inr no' ↦ (let bad : Some p ≡ None = rw no' at at in cc)
]

-- the whole run, as what is gathered
continues_run : (next used : ℕ) (ps : List Piece) → Continues next (run next used ps)
continues_run next used [] = tt
continues_run next used (p ∷ ps) = elim (cases_Bool (fits next used p)) [
  | inl is ↦ rw is (eqb-true p.start next (and_parts (p.start == next) (nat_le (used + length p.bytes) MAX_BODY) is).0, continues_run (next + length p.bytes) (used + length p.bytes) ps)
  | inr no' ↦ rw no' tt
]

run_left : (next used : ℕ) (ps : List Piece) → ps ≡ run next used ps ++ left next used ps
run_left next used [] = refl
run_left next used (p ∷ ps) = elim (cases_Bool (fits next used p)) [
  | inl is ↦ rw is (ap (λ (l : List Piece). p ∷ l) (run_left (next + length p.bytes) (used + length p.bytes) ps))
  | inr no' ↦ rw no' refl
]

run_fits : (next used : ℕ) (ps : List Piece) → (run next used ps ≡ []) ⊎ (used + length (bytes_of (run next used ps)) ≤ MAX_BODY)
run_fits next used [] = inl refl
run_fits next used (p ∷ ps) = elim (cases_Bool (fits next used p)) [
  | inl is ↦
      let small = leb-true (used + length p.bytes) MAX_BODY (and_parts (p.start == next) (nat_le (used + length p.bytes) MAX_BODY) is).1 in
      rw is (inr (elim (run_fits (next + length p.bytes) (used + length p.bytes) ps) [
        | inl none ↦ rw none (let n = length-append p.bytes [] in omega (arith, n, small))
        | inr more ↦ let n = length-append p.bytes (bytes_of (run (next + length p.bytes) (used + length p.bytes) ps)) in omega (arith, n, more)
      ]))
  | inr no' ↦ rw no' (inl refl)
]

run_stops : (next used : ℕ) (ps : List Piece) → Stops (next + length (bytes_of (run next used ps))) (used + length (bytes_of (run next used ps))) (left next used ps)
run_stops next used [] = tt
run_stops next used (p ∷ ps) = elim (cases_Bool (fits next used p)) [
  | inl is ↦
      let more = bytes_of (run (next + length p.bytes) (used + length p.bytes) ps) in
      let n = length-append p.bytes more in
      let a : next + length (p.bytes ++ more) ≡ next + length p.bytes + length more = omega (arith, n) in
      let b : used + length (p.bytes ++ more) ≡ used + length p.bytes + length more = omega (arith, n) in
      rw (is, a, b) (run_stops (next + length p.bytes) (used + length p.bytes) ps)
  | inr no' ↦ rw no' (λ at small.
      let there : (p.start == next) ≡ true = eq-eqb p.start next (let z : next + 0 ≡ next = omega arith in at ∙ z) in
      let fit : nat_le (used + length p.bytes) MAX_BODY ≡ true = le-leb (used + length p.bytes) MAX_BODY (omega (arith, small)) in
      let yes : fits next used p ≡ true = and_from (p.start == next) (nat_le (used + length p.bytes) MAX_BODY) there fit in
      (cc))
]

pub gathered : (next : ℕ) (ps : List Piece) (body : List ℕ) → Gathers next ps (left next (length body) ps) body (body ++ bytes_of (run next (length body) ps)) (next + length (bytes_of (run next (length body) ps)))
gathered next ps body =
    let n = length-append body (bytes_of (run next (length body) ps)) in
    record {
      taken = run next (length body) ps;
      front = run_left next (length body) ps;
      continues = continues_run next (length body) ps;
      bytes = refl;
      past = refl;
      fits = rw n (run_fits next (length body) ps);
      stops = rw n (run_stops next (length body) ps);
    }
