-- The first record of a stream that is left, and the recovered vector.
use Rattle.std.proofs.Common.{ℕ, zero, suc, ◌≡◌, ◌≢◌, ◌+◌, ◌<◌, ◌≤◌, ◌⊎◌, inl, inr, Bool, true, false, List, [], ◌∷◌, drop, length, eqb-true, eq-eqb, refl, sym, ap, subst, ◌∙◌, arith, slice_index}
use Rattle.std.specs.Prelude.{Option, Some, None, slice_get, nat_lt, ◌==◌, if◌then◌else◌}
use Rattle.std.proofs.lemmas.Bool.{cases_eq, cases_lt}
use Rattle.std.proofs.lemmas.Bool.Decides.{nat_tests}
use Rattle.tau_pool.specs.Item.{Item}
use Rattle.tau_pool.specs.Items.{is_left}
use Rattle.tau_pool.specs.First.{first_from, reach_one}
use Rattle.tau_pool.specs.Passing.{is_passed, Behind, Ordered}
use Rattle.tau_pool.specs.Kept.{AreWithin, IsReached}
use Rattle.tau_pool.specs.Pooled.{IsRecovered}
use Rattle.tau_pool.proofs.Gets.{get_member}
use Rattle.tau_base.proofs.Lists.{some_at, got_within}
use Rattle.tau_base.proofs.Logic.{some_is, below_of_true, at_most_of_false}

module _ (j : ℕ) where
  pub step_first : (n : ℕ) (z : Item) (zs : List Item) → is_passed j z ≡ true → first_from j n (z ∷ zs) ≡ first_from j (suc n) zs
  step_first n z zs is = rw is refl

  pub stop_first : (n : ℕ) (z : Item) (zs : List Item) → is_passed j z ≡ false → first_from j n (z ∷ zs) ≡ n
  stop_first n z zs is = rw is refl

  two : (z : Item) → (is_passed j z ≡ true) ⊎ (is_passed j z ≡ false)
  two z = by (is_passed j z) refl
    where
      by : (b : Bool) → is_passed j z ≡ b → (is_passed j z ≡ true) ⊎ (is_passed j z ≡ false)
      by true e = inl e
      by false e = inr e

  pub first_bounds : (n : ℕ) (zs : List Item) → (n ≤ first_from j n zs) × (first_from j n zs ≤ n + length zs)
  first_bounds n [] = (omega arith, omega arith)
  first_bounds n (z ∷ zs) = elim (two z) [
    | inl is ↦ let h = first_bounds (suc n) zs in rw (step_first n z zs is) (omega (arith, h.0), omega (arith, h.1))
    | inr is ↦ rw (stop_first n z zs is) (omega arith, omega arith)
  ]

  pub before_first : (n : ℕ) (zs : List Item) (k : ℕ) (x : Item) → n + k < first_from j n zs → slice_get zs k ≡ Some x → is_passed j x ≡ true
  before_first n [] k x lt is = absurd cc
  before_first n (z ∷ zs) zero x lt is = elim (two z) [
    | inl here ↦ subst (λ (q : Item). is_passed j q ≡ true) (some_is z x is) here
    | inr here ↦ absurd (omega (arith, lt, stop_first n z zs here))
  ]
  before_first n (z ∷ zs) (suc k) x lt is = elim (two z) [
    | inl here ↦ before_first (suc n) zs k x (omega (arith, lt, step_first n z zs here)) is
    | inr here ↦ absurd (omega (arith, lt, stop_first n z zs here))
  ]

  pub at_first : (n : ℕ) (zs : List Item) (k : ℕ) (x : Item) → first_from j n zs ≡ n + k → slice_get zs k ≡ Some x → is_passed j x ≡ false
  at_first n [] k x e is = absurd cc
  at_first n (z ∷ zs) zero x e is = elim (two z) [
    | inl here ↦ absurd (omega (arith, e, step_first n z zs here, (first_bounds (suc n) zs).0))
    | inr here ↦ subst (λ (q : Item). is_passed j q ≡ false) (some_is z x is) here
  ]
  at_first n (z ∷ zs) (suc k) x e is = elim (two z) [
    | inl here ↦ at_first (suc n) zs k x (omega (arith, e, step_first n z zs here)) is
    | inr here ↦ absurd (omega (arith, e, stop_first n z zs here))
  ]

  pub first_skip : (n m : ℕ) (zs : List Item) → m ≤ length zs → ((k : ℕ) (z : Item) → k < m → slice_get zs k ≡ Some z → is_passed j z ≡ true) → first_from j n zs ≡ first_from j (n + m) (drop m zs)
  first_skip n zero zs le all = ap (λ (k : ℕ). first_from j k zs) (omega arith)
  first_skip n (suc m) [] le all = absurd (omega (arith, le))
  first_skip n (suc m) (z ∷ zs) le all =
      let next : suc n + m ≡ n + suc m = omega arith in
      step_first n z zs (all 0 z (omega arith) refl) ∙ first_skip (suc n) m zs (omega (arith, le)) (λ k q lt is. all (suc k) q (omega (arith, lt)) is) ∙ ap (λ (k : ℕ). first_from j k (drop m zs)) next

  pub passed_more : (x : Item) → is_passed j x ≡ true → is_passed (j + 1) x ≡ true
  passed_more x is = by_tests (nat_lt x.stream j) (x.stream == j) refl refl is
    where
      low : x.stream < j + 1 → nat_lt x.stream (j + 1) ≡ true
      low lt = grind (arith, nat_tests)

      done : x.stream < j + 1 → is_passed (j + 1) x ≡ true
      done lt = rw (low lt) refl

      by_tests : (b c : Bool) → nat_lt x.stream j ≡ b → (x.stream == j) ≡ c → (if b then true else (if c then (if is_left x.stage then false else true) else false)) ≡ true → is_passed (j + 1) x ≡ true
      by_tests true c e f is = let lt = below_of_true x.stream j e in done (omega (arith, lt))
      by_tests false true e f is = let same = eqb-true x.stream j f in done (omega (arith, same))
      by_tests false false e f is = absurd cc

  pub left_open : (x : Item) → x.stream ≡ j → is_left x.stage ≡ true → is_passed j x ≡ false
  left_open x same left = by_tests (nat_lt x.stream j) (x.stream == j) (low x.stream same) (eq-eqb x.stream j same)
    where
      low : (s : ℕ) → s ≡ j → nat_lt s j ≡ false
      low s e = grind (arith, nat_tests)

      by_tests : (b c : Bool) → b ≡ false → c ≡ true → (if b then true else (if c then (if is_left x.stage then false else true) else false)) ≡ false
      by_tests b c p q = rw (p, q, left) refl

  -- a record that is not passed is of a higher stream, or of this one and left
  pub open_left : (x : Item) → is_passed j x ≡ false → (j ≤ x.stream) × (x.stream ≡ j → is_left x.stage ≡ true)
  open_left x is = (low (nat_lt x.stream j) refl is, λ same. left (nat_lt x.stream j) (x.stream == j) (is_left x.stage) (eq-eqb x.stream j same) is)
    where
      low : (b : Bool) → nat_lt x.stream j ≡ b → (if b then true else (if x.stream == j then (if is_left x.stage then false else true) else false)) ≡ false → j ≤ x.stream
      low true e is = absurd cc
      low false e is = at_most_of_false x.stream j e

      left : (b c d : Bool) → c ≡ true → (if b then true else (if c then (if d then false else true) else false)) ≡ false → d ≡ true
      left true c d e is = absurd cc
      left false true true e is = refl
      left false true false e is = absurd cc
      left false false d e is = absurd cc

  -- the first record that is left starts no later than any other of its stream that is left
  pub left_first : (items : List Item) (i : ℕ) (x : Item) → Ordered items → slice_get items i ≡ Some x → x.stream ≡ j → is_left x.stage ≡ true →
      (z : Item) × (slice_get items (first_from j 0 items) ≡ Some z) × (z.stream ≡ j) × (is_left z.stage ≡ true) × (z.start ≤ x.start)
  left_first items i x ordered there same left =
      let m : ℕ = first_from j 0 items in
      let low : m ≤ i = elim (cases_lt i m) [
        | inl lt ↦ absurd (absurd_passed (before_first 0 items i x (omega (arith, lt)) there))
        | inr le ↦ le
      ] in
      let (z, here) = some_at items m (omega (arith, low, got_within items i x there)) in
      let here_open = open_left z (at_first 0 items m z (omega arith) here) in
      elim (cases_eq m i) [
        | inl e ↦
            let is : z ≡ x = some_is z x (sym here ∙ subst (λ (k : ℕ). slice_get items k ≡ Some x) (sym e) there) in
            (z, here, ap (λ (q : Item). q.stream) is ∙ same, ap (λ (q : Item). is_left q.stage) is ∙ left, omega (arith, ap (λ (q : Item). q.start) is))
        | inr other ↦ elim (ordered_at items m i z x ordered here there (below m i low other)) [
          | inl lt ↦ absurd (omega (arith, lt, here_open.0, same))
          | inr b ↦ (z, here, b.0 ∙ same, here_open.1 (b.0 ∙ same), omega (arith, b.1))
        ]
      ]
    where
      absurd_passed : is_passed j x ≡ true → ⊥
      absurd_passed e = let o = left_open x same left in absurd cc

      below : (m i : ℕ) → m ≤ i → m ≢ i → m < i
      below m i le other = elim (cases_lt m i) [ inl a ↦ a | inr b ↦ absurd (other (omega (arith, le, b))) ]

      ordered_at : (xs : List Item) (m i : ℕ) (z x : Item) → Ordered xs → slice_get xs m ≡ Some z → slice_get xs i ≡ Some x → m < i → Behind z x
      ordered_at [] m i z x h a b lt = absurd cc
      ordered_at (y ∷ xs) zero zero z x h a b lt = absurd (omega (arith, lt))
      ordered_at (y ∷ xs) zero (suc i) z x h a b lt = subst (λ (q : Item). Behind q x) (some_is y z a) (h.0 x (get_member xs i x b))
      ordered_at (y ∷ xs) (suc m) zero z x h a b lt = absurd (omega (arith, lt))
      ordered_at (y ∷ xs) (suc m) (suc i) z x h a b lt = ordered_at xs m i z x h.1 a b (omega (arith, lt))

pub reach_is : (j e : ℕ) (z : Item) → z.stream ≡ j → reach_one j e (Some z) ≡ z.start
reach_is j e z same = rw (eq-eqb z.stream j same) refl

pub reach_other : (j e : ℕ) (z : Item) → z.stream ≢ j → reach_one j e (Some z) ≡ e
reach_other j e z other = by_test (z.stream == j) refl
  where
    by_test : (b : Bool) → (z.stream == j) ≡ b → (if b then z.start else e) ≡ e
    by_test true is = absurd (other (eqb-true z.stream j is))
    by_test false is = refl

abbrev Reaches : List ℕ → List ℕ → List Item → ℕ → Type 0
Reaches ends rlv items j = ((slice_index rlv j ≡ slice_index ends j) × ((i : ℕ) (x : Item) → slice_get items i ≡ Some x → x.stream ≡ j → is_left x.stage ≡ true → ⊥))
    ⊎ ((i : ℕ) × (x : Item) × (slice_get items i ≡ Some x) × (x.stream ≡ j) × (is_left x.stage ≡ true) × (x.start ≡ slice_index rlv j))

pub recovered : (ends rlv : List ℕ) (items : List Item) (nexts : List ℕ) → length rlv ≡ length ends → Ordered items → AreWithin ends items → IsReached ends rlv items nexts → IsRecovered ends rlv items
recovered ends rlv items nexts wide ordered within r = record {
  wide = wide;
  below = λ i x there left.
      let lt = (within i x there).stream in
      let (z, here, same, still, low) = left_first x.stream items i x ordered there refl left in
      let is : slice_index rlv x.stream ≡ z.start = r.reached x.stream lt ∙ ap (λ (k : ℕ). reach_one x.stream (slice_index ends x.stream) (slice_get items k)) (r.firsts x.stream lt) ∙ ap (reach_one x.stream (slice_index ends x.stream)) here ∙ reach_is x.stream (slice_index ends x.stream) z same in
      omega (arith, is, low);
  reached = λ j lt. by_first j (first_from j 0 items) refl (slice_get items (first_from j 0 items)) refl
      (r.reached j lt ∙ ap (λ (k : ℕ). reach_one j (slice_index ends j) (slice_get items k)) (r.firsts j lt));
}
  where
    by_first : (j m : ℕ) → first_from j 0 items ≡ m → (o : Option Item) → slice_get items (first_from j 0 items) ≡ o → slice_index rlv j ≡ reach_one j (slice_index ends j) (slice_get items (first_from j 0 items)) → Reaches ends rlv items j
    by_first j m e None none is = inl (is ∙ ap (reach_one j (slice_index ends j)) none, λ i x there same left. let (z, here, of, still, le) = left_first j items i x ordered there same left in absurd cc)
    by_first j m e (Some z) here is = elim (cases_eq z.stream j) [
      | inl same ↦ inr (first_from j 0 items, z, here, same, (open_at j z here).1 same, sym (is ∙ ap (reach_one j (slice_index ends j)) here ∙ reach_is j (slice_index ends j) z same))
      | inr other ↦ inl (
        is ∙ ap (reach_one j (slice_index ends j)) here ∙ reach_other j (slice_index ends j) z other,
        λ i x there same left. let (y, at, of, still, le) = left_first j items i x ordered there same left in other (ap (λ (q : Item). q.stream) (some_is z y (sym here ∙ at)) ∙ of),
      )
    ]
      where
        open_at : (j : ℕ) (z : Item) → slice_get items (first_from j 0 items) ≡ Some z → (j ≤ z.stream) × (z.stream ≡ j → is_left z.stage ≡ true)
        open_at j z here = open_left j z (at_first j 0 items (first_from j 0 items) z (omega arith) here)
