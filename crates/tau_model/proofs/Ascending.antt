-- Calls in the order of their numbers, records in the order of their streams.
use Rattle.std.proofs.Common.{ℕ, zero, suc, ◌+◌, add-one, ◌≤◌, ◌<◌, Bool, true, ◌≡◌, ◌⊎◌, inl, inr, List, [], ◌∷◌, ◌++◌, length, refl, sym, ap, ◌∙◌, arith}
use Rattle.std.specs.Prelude.{nat_le, not, ◌==◌, slice_index_or}
use Rattle.std.specs.List.{filter}
use Rattle.std.proofs.lemmas.Bool.{cases_Bool, and_parts, leb-true, le-leb, eqb-true, cases_lt}
use Rattle.tau_model.specs.History.{Member, Before, Reordered}
use Rattle.tau_model.specs.Logged.{Place, IsPlaced}
use Rattle.tau_model.specs.Reported.{put_in, ascending, each, in_stream, IsLeft, left_of}
use Rattle.tau_model.proofs.Orders.{member_front, member_back, member_reordered}
use Rattle.tau_model.proofs.Reorder.{reordered_itself, reordered_trans, reordered_sym, reordered_filter}
use Rattle.tau_model.proofs.Logged.{member_first, member_second, member_filtered, before_filtered}

module _ {A : Type 0} (key : A → ℕ) where
  pub put_in_reordered : (x : A) (ys : List A) → Reordered (x ∷ ys) (put_in key x ys)
  put_in_reordered x [] = reordered_itself (x ∷ [])
  put_in_reordered x (y ∷ ys) = elim (cases_Bool (nat_le (key x) (key y))) [
    | inl le ↦ rw le (reordered_itself (x ∷ y ∷ ys))
    | inr gt ↦ rw gt (let (front, back, e, r) = put_in_reordered x ys in
        (y ∷ front, back, ap (λ (l : List A). y ∷ l) e, ([], front ++ back, refl, r)))
  ]

  pub ascending_reordered : (xs : List A) → Reordered xs (ascending key xs)
  ascending_reordered [] = refl
  ascending_reordered (x ∷ xs) =
      reordered_trans (x ∷ xs) (x ∷ ascending key xs) (put_in key x (ascending key xs))
      ([], ascending key xs, refl, ascending_reordered xs) (put_in_reordered x (ascending key xs))

  put_in_least : (x : A) (ys : List A) → ((y : A) → Member y ys → key x ≤ key y) → put_in key x ys ≡ x ∷ ys
  put_in_least x [] low = refl
  put_in_least x (y ∷ ys) low = rw (le-leb (key x) (key y) (low y (inl refl))) refl

  -- an element below the others comes first
  ascending_least : (x : A) (front back : List A) → ((y : A) → Member y front → key x < key y) → ((y : A) → Member y back → key x ≤ key y) →
      ascending key (front ++ x ∷ back) ≡ x ∷ ascending key (front ++ back)
  ascending_least x [] back above low =
      put_in_least x (ascending key back) (λ y m. low y (member_reordered back (ascending key back) (ascending_reordered back) y m))
  ascending_least x (y ∷ front) back above low =
      let rest : ascending key (front ++ x ∷ back) ≡ x ∷ ascending key (front ++ back) = ascending_least x front back (λ z m. above z (inr m)) low in
      let over : key x < key y = above y (inl refl) in
      rw rest (elim (cases_Bool (nat_le (key y) (key x))) [
        | inl le ↦ (let p : key y ≤ key x = leb-true (key y) (key x) le in absurd (omega arith))
        | inr gt ↦ rw gt refl
      ])

  -- what ascends is the ascending order of each of its orders
  pub ascending_unique : (xs ys : List A) → ((u t : A) → Before u t xs → key u < key t) → Reordered xs ys → ascending key ys ≡ xs
  ascending_unique [] ys up e = rw e refl
  ascending_unique (x ∷ xs) ys up (front, back, e, r) =
      let there : (y : A) → Member y (front ++ back) → key x < key y = λ y m. up x y (inl (refl, member_reordered xs (front ++ back) r y m)) in
      let first : ascending key (front ++ x ∷ back) ≡ x ∷ ascending key (front ++ back) =
      ascending_least x front back (λ y m. there y (member_front y front back m)) (λ y m. let h = there y (member_back y front back m) in omega arith) in
      let rest : ascending key (front ++ back) ≡ xs = ascending_unique xs (front ++ back) (λ u t b. up u t (inr b)) r in
      ap (ascending key) e ∙ first ∙ ap (λ (l : List A). x ∷ l) rest

pub each_at : {A : Type 0} (n : ℕ) (f : ℕ → List A) (j : ℕ) → j < n → slice_index_or (each n f) j [] ≡ f j
each_at zero f j lt = absurd (omega arith)
each_at (suc n) f zero lt = refl
each_at (suc n) f (suc j) lt = each_at n (λ k. f (suc k)) j (omega arith)

pub each_past : {A : Type 0} (n : ℕ) (f : ℕ → List A) (j : ℕ) → n ≤ j → slice_index_or (each n f) j [] ≡ []
each_past zero f j le = refl
each_past (suc n) f zero le = absurd (omega arith)
each_past (suc n) f (suc j) le = each_past n (λ k. f (suc k)) j (omega arith)

pub length_each : {A : Type 0} (n : ℕ) (f : ℕ → A) → length (each n f) ≡ n
length_each zero f = refl
length_each (suc n) f = let h = length_each n (λ k. f (suc k)) in omega arith

none_passes : {A : Type 0} (p : A → Bool) (xs : List A) → ((x : A) → Member x xs → p x ≡ true → ⊥) → filter p xs ≡ []
none_passes p [] no' = refl
none_passes p (x ∷ xs) no' = elim (cases_Bool (p x)) [
  | inl is ↦ absurd (no' x (inl refl) is)
  | inr not' ↦ rw not' (none_passes p xs (λ y m. no' y (inr m)))
]

module _ {A : Type 0} (place : A → Place) (up : A → Bool) (number : A → ℕ) where
  -- what is left of the committed calls, in whatever order they are given
  pub left_of_is : (ends : List ℕ) (acts calls : List A) → IsPlaced place up ends acts → Reordered acts calls →
      IsLeft place up ends acts (left_of place up number (length ends) calls)
  left_of_is ends acts calls can same = record {
    readers = reordered_sym (filter reads acts) (ascending number (filter reads calls)) (reordered_trans (filter reads acts) (filter reads calls) (ascending number (filter reads calls))
        (reordered_filter reads acts calls same) (ascending_reordered number (filter reads calls)));
    streams = λ j. elim (cases_lt' j) [
      | inl lt ↦ each_at (length ends) of_stream j lt ∙
          ascending_unique start (filter (in_stream place up j) acts) (filter (in_stream place up j) calls) (in_order j) (reordered_filter (in_stream place up j) acts calls same)
      | inr le ↦ each_past (length ends) of_stream j le ∙ sym (none_passes (in_stream place up j) acts (λ x m is.
          let s = stream_of j x is in let p = (can.placed x m s.0).0 in let e = s.1 in omega arith))
    ];
    count = length_each (length ends) of_stream;
  }
    where
      reads : A → Bool
      reads x = not (up x)

      start : A → ℕ
      start x = (place x).start

      of_stream : ℕ → List A
      of_stream j = ascending start (filter (in_stream place up j) calls)

      stream_of : (j : ℕ) (x : A) → in_stream place up j x ≡ true → (up x ≡ true) × ((place x).stream ≡ j)
      stream_of j x e = let parts = and_parts (up x) ((place x).stream == j) e in (parts.0, eqb-true (place x).stream j parts.1)

      in_order : (j : ℕ) (u t : A) → Before u t (filter (in_stream place up j) acts) → start u < start t
      in_order j u t b =
          let here = before_filtered (in_stream place up j) u t acts b in
          let us = stream_of j u (member_filtered (in_stream place up j) u acts (member_first u t (filter (in_stream place up j) acts) b)).1 in
          let ts = stream_of j t (member_filtered (in_stream place up j) t acts (member_second u t (filter (in_stream place up j) acts) b)).1 in
          can.starts u t here us.0 ts.0 (us.1 ∙ sym ts.1)

      cases_lt' : (j : ℕ) → (j < length ends) ⊎ (length ends ≤ j)
      cases_lt' j = cases_lt j (length ends)

pub each_push : {A : Type 0} (n : ℕ) (f : ℕ → A) → each (n + 1) f ≡ each n f ++ f n ∷ []
each_push zero f = refl
each_push (suc n) f = ap (λ k. each k f) (add-one (suc n)) ∙ ap (λ l. f 0 ∷ l) (ap (λ k. each k (λ j. f (suc j))) (sym (add-one n)) ∙ each_push n (λ k. f (suc k)))
