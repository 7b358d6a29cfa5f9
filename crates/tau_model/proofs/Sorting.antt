-- A stable sort by a number gives the ascending order.
use Rattle.std.proofs.Common.{ℕ, ◌≤◌, ◌<◌, Bool, true, false, ◌≡◌, inl, inr, List, [], ◌∷◌, length, get_or, refl, sym, ap, subst, ◌∙◌, arith}
use Rattle.std.specs.Prelude.{nat_le, not, ◌==◌, ◌&&◌, suc}
use Rattle.std.specs.List.{filter}
use Rattle.std.specs.List.Sorted.{IsNonDecreasingBy, IsSortedByKey, IsStableByKey, ties}
use Rattle.std.specs.Ordering.{nat_cmp, is_lt}
use Rattle.std.proofs.lemmas.Bool.{cases_Bool, both_ways, cases_eq, leb-true, le-leb, eqb-true, eq-eqb, ne_eqb}
use Rattle.std.proofs.lemmas.Bool.Decides.{nat_tests}
use Rattle.std.proofs.lemmas.List.Sorted.{IsNonDecreasingBy-from_sort}
use Rattle.tau_model.specs.History.{Member}
use Rattle.tau_model.specs.Reported.{put_in, ascending}
use Rattle.tau_model.proofs.Orders.{member_reordered}
use Rattle.tau_model.proofs.Logged.{member_filtered}
use Rattle.tau_model.proofs.Ascending.{put_in_reordered}

pub filter_same : {A : Type 0} (p q : A → Bool) (xs : List A) → ((x : A) → p x ≡ q x) → filter p xs ≡ filter q xs
filter_same p q [] h = refl
filter_same p q (x ∷ xs) h = rw (h x, filter_same p q xs h) refl

-- two filters after one another, in either order
pub filter_filter : {A : Type 0} (p q : A → Bool) (xs : List A) → filter p (filter q xs) ≡ filter q (filter p xs)
filter_filter p q [] = refl
filter_filter p q (x ∷ xs) = by_case (p x) (q x) refl refl (filter_filter p q xs)
  where
    by_case : (a b : Bool) → p x ≡ a → q x ≡ b → filter p (filter q xs) ≡ filter q (filter p xs) → filter p (filter q (x ∷ xs)) ≡ filter q (filter p (x ∷ xs))
    by_case true true e f rest = simp (e, f) (ap (λ l. x ∷ l) rest)
    by_case true false e f rest = simp (e, f) rest
    by_case false true e f rest = simp (e, f) rest
    by_case false false e f rest = simp (e, f) rest

-- whether two numbers tie in the order of numbers
ties_is : (a b : ℕ) → (not (is_lt (nat_cmp a b)) && not (is_lt (nat_cmp b a))) ≡ (b == a)
ties_is a b = grind (arith, nat_tests)

module _ {A : Type 0} (key : A → ℕ) where
  -- the numbers do not fall
  abbrev pub Rising : List A → Type 0
  Rising [] = Unit {0}
  Rising (x ∷ xs) = ((y : A) → Member y xs → key x ≤ key y) × Rising xs

  abbrev pub has_number : ℕ → A → Bool
  has_number v x = key x == v

  put_in_rising : (x : A) (ys : List A) → Rising ys → Rising (put_in key x ys)
  put_in_rising x [] h = ((λ y m. absurd m), tt)
  put_in_rising x (y ∷ ys) h = elim (cases_Bool (nat_le (key x) (key y))) [
    | inl le ↦ rw le (
      (λ z m. let first : key x ≤ key y = leb-true (key x) (key y) le in elim m [
        | inl e ↦ subst (λ (w : A). key x ≤ key w) e first
        | inr n ↦ let next = h.0 z n in omega arith
      ]),
      h,
    )
    | inr gt ↦ rw gt (
      (λ z m. elim (member_reordered (x ∷ ys) (put_in key x ys) (put_in_reordered key x ys) z m) [
        | inl e ↦ subst (λ (w : A). key y ≤ key w) e (above gt)
        | inr n ↦ h.0 z n
      ]),
      put_in_rising x ys h.1,
    )
  ]
    where
      above : nat_le (key x) (key y) ≡ false → key y ≤ key x
      above e = grind (arith, nat_tests)

  pub ascending_rising : (xs : List A) → Rising (ascending key xs)
  ascending_rising [] = tt
  ascending_rising (x ∷ xs) = put_in_rising x (ascending key xs) (ascending_rising xs)

  pub filter_rising : (p : A → Bool) (xs : List A) → Rising xs → Rising (filter p xs)
  filter_rising p [] h = tt
  filter_rising p (x ∷ xs) h = elim (cases_Bool (p x)) [
    | inl is ↦ rw is ((λ y m. h.0 y (member_filtered p y xs m).0), filter_rising p xs h.1)
    | inr no' ↦ rw no' (filter_rising p xs h.1)
  ]

  put_in_filtered : (v : ℕ) (x : A) (ys : List A) → filter (has_number v) (put_in key x ys) ≡ filter (has_number v) (x ∷ ys)
  put_in_filtered v x [] = refl
  put_in_filtered v x (y ∷ ys) = elim (cases_Bool (nat_le (key x) (key y))) [
    | inl le ↦ rw le refl
    | inr gt ↦ rw gt (apart (has_number v x) (has_number v y) gt refl refl (put_in_filtered v x ys))
  ]
    where
      apart : (a b : Bool) → nat_le (key x) (key y) ≡ false → has_number v x ≡ a → has_number v y ≡ b → filter (has_number v) (put_in key x ys) ≡ filter (has_number v) (x ∷ ys) →
          filter (has_number v) (y ∷ put_in key x ys) ≡ filter (has_number v) (x ∷ y ∷ ys)
      apart true true gt e f rest =
          let p : key x ≡ v = eqb-true (key x) v e in let q : key y ≡ v = eqb-true (key y) v f in
          let r : nat_le (key x) (key y) ≡ true = le-leb (key x) (key y) (omega arith) in absurd (both_ways (nat_le (key x) (key y)) gt r)
      apart true false gt e f rest = simp (e, f) (rest ∙ simp e)
      apart false true gt e f rest = simp (e, f) (ap (λ l. y ∷ l) (rest ∙ simp e))
      apart false false gt e f rest = simp (e, f) (rest ∙ simp e)

  -- those with one number keep their order
  pub ascending_filtered : (v : ℕ) (xs : List A) → filter (has_number v) (ascending key xs) ≡ filter (has_number v) xs
  ascending_filtered v [] = refl
  ascending_filtered v (x ∷ xs) = put_in_filtered v x (ascending key xs) ∙ first (has_number v x) refl (ascending_filtered v xs)
    where
      first : (b : Bool) → has_number v x ≡ b → filter (has_number v) (ascending key xs) ≡ filter (has_number v) xs →
          filter (has_number v) (x ∷ ascending key xs) ≡ filter (has_number v) (x ∷ xs)
      first true e rest = rw e (ap (λ l. x ∷ l) rest)
      first false e rest = rw e rest

  pub number_is : (v : ℕ) (x : A) → has_number v x ≡ true → key x ≡ v
  number_is v x e = eqb-true (key x) v e

  number_itself : (x : A) → has_number (key x) x ≡ true
  number_itself x = eq-eqb (key x) (key x) refl

  -- an element with the number of the first of the others is not below it
  below : (x y : A) (xs ys : List A) → Rising (y ∷ ys) → filter (has_number (key x)) (x ∷ xs) ≡ filter (has_number (key x)) (y ∷ ys) → key y ≤ key x
  below x y xs ys h same =
      let there : Member x (filter (has_number (key x)) (y ∷ ys)) =
      subst (λ (l : List A). Member x l) same (rw (number_itself x) (inl refl)) in
      elim (member_filtered (has_number (key x)) x (y ∷ ys) there).0 [
        | inl e ↦ (let p : key y ≡ key x = ap key e in omega arith)
        | inr m ↦ h.0 x m
      ]

  -- two lists that rise and have the same elements with each number, in the same order
  pub same_order : (xs ys : List A) → Rising xs → Rising ys → ((v : ℕ) → filter (has_number v) xs ≡ filter (has_number v) ys) → xs ≡ ys
  same_order [] [] h k same = refl
  same_order [] (y ∷ ys) h k same = let e = same (key y) in let f = rw (number_itself y) at e in cc
  same_order (x ∷ xs) [] h k same = let e = same (key x) in let f = rw (number_itself x) at e in cc
  same_order (x ∷ xs) (y ∷ ys) h k same =
      let low : key y ≤ key x = below x y xs ys k (same (key x)) in
      let high : key x ≤ key y = below y x ys xs h (sym (same (key y))) in
      let tie : key y ≡ key x = omega arith in
      let also : has_number (key x) y ≡ true = subst (λ (n : ℕ). has_number n y ≡ true) tie (number_itself y) in
      let all : x ∷ filter (has_number (key x)) xs ≡ y ∷ filter (has_number (key x)) ys = rw (number_itself x, also) at (same (key x)) in
      let first : x ≡ y = cc in
      let rest : xs ≡ ys = same_order xs ys h.1 k.1 (λ v. elim (cases_eq (key x) v) [
        | inl is ↦ subst (λ (n : ℕ). filter (has_number n) xs ≡ filter (has_number n) ys) is (let e : filter (has_number (key x)) xs ≡ filter (has_number (key x)) ys = cc in e)
        | inr other ↦
            let no_x : has_number v x ≡ false = none v x other in
            let no_y : has_number v y ≡ false = none v y (λ e. other (sym tie ∙ e)) in
            rw (no_x, no_y) at (same v)
      ]) in
      λ i. first i ∷ rest i
    where
      none : (v : ℕ) (z : A) → (key z ≡ v → ⊥) → has_number v z ≡ false
      none v z ne = ne_eqb (key z) v ne

  -- a filter of the ascending order is the ascending order of the filter
  pub ascending_filter : (p : A → Bool) (xs : List A) → filter p (ascending key xs) ≡ ascending key (filter p xs)
  ascending_filter p xs = same_order (filter p (ascending key xs)) (ascending key (filter p xs)) (filter_rising p (ascending key xs) (ascending_rising xs)) (ascending_rising (filter p xs))
      (λ v. filter_filter (has_number v) p (ascending key xs) ∙ ap (filter p) (ascending_filtered v xs) ∙ filter_filter p (has_number v) xs ∙ sym (ascending_filtered v (filter p xs)))

  pub at_some_place : (y : A) (xs : List A) → Member y xs → (k : ℕ) × (k < length xs) × ((d : A) → get_or xs k d ≡ y)
  at_some_place y [] m = absurd m
  at_some_place y (x ∷ xs) (inl e) = (0, omega arith, λ d. e)
  at_some_place y (x ∷ xs) (inr m) = let (k, lt, is) = at_some_place y xs m in (suc k, omega arith, is)

  rising_from : (xs : List A) → IsNonDecreasingBy key xs → Rising xs
  rising_from [] h = tt
  rising_from (x ∷ xs) h = (
    λ y m. let (k, lt, is) = at_some_place y xs m in
        let up : key x ≤ key (get_or xs k x) = h 0 (suc k) x (omega arith) (omega arith) in
        subst (λ (z : A). key x ≤ key z) (is x) up,
    rising_from xs (λ i j d le lt. h (suc i) (suc j) d (omega arith) (omega arith)),
  )

  ties_number : (x : A) (xs : List A) → filter (ties (λ y z. is_lt (nat_cmp (key y) (key z))) x) xs ≡ filter (has_number (key x)) xs
  ties_number x xs = filter_same (ties (λ y z. is_lt (nat_cmp (key y) (key z))) x) (λ y. key y == key x) xs (λ y. ties_is (key x) (key y))

  -- what a stable sort ensures
  pub sorted_ascending : (xs ys : List A) → IsSortedByKey key nat_cmp ys → IsStableByKey key nat_cmp xs ys → ys ≡ ascending key xs
  sorted_ascending xs ys sorted stable =
      same_order ys (ascending key xs) (rising_from ys (IsNonDecreasingBy-from_sort key ys sorted)) (ascending_rising xs)
      (λ v. at v (filter (has_number v) xs) (filter (has_number v) ys) refl refl ∙ sym (ascending_filtered v xs))
    where
      tied : (x : A) → filter (has_number (key x)) ys ≡ filter (has_number (key x)) xs
      tied x = sym (ties_number x ys) ∙ stable x ∙ ties_number x xs

      is_first : (v : ℕ) (zs : List A) (z : A) (rest : List A) → filter (has_number v) zs ≡ z ∷ rest → key z ≡ v
      is_first v zs z rest e = number_is v z (member_filtered (has_number v) z zs (rw e (inl refl))).1

      at : (v : ℕ) (us vs : List A) → filter (has_number v) xs ≡ us → filter (has_number v) ys ≡ vs → filter (has_number v) ys ≡ filter (has_number v) xs
      at v [] [] e f = f ∙ sym e
      at v (z ∷ rest) vs e f = subst (λ (n : ℕ). filter (has_number n) ys ≡ filter (has_number n) xs) (is_first v xs z rest e) (tied z)
      at v [] (z ∷ rest) e f = subst (λ (n : ℕ). filter (has_number n) ys ≡ filter (has_number n) xs) (is_first v ys z rest f) (tied z)
