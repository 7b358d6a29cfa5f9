-- The calls of an order by their places and numbers.
use Rattle.std.proofs.Common.{ℕ, zero, suc, ◌+◌, ◌<◌, ◌≤◌, ◌≡◌, ◌==◌, Bool, true, false, inl, inr, List, [], ◌∷◌, ◌++◌, length, take, drop, map, refl, sym, ap, ◌∙◌, arith, Option, cond}
use Rattle.std.specs.Prelude.{Some, None, slice_get, count_by}
use Rattle.std.specs.List.{range_with_len}
use Rattle.std.proofs.lemmas.Bool.{both_ways, or_cases}
use Rattle.std.proofs.lemmas.Bool.Decides.{nat_tests}
use Rattle.std.proofs.lemmas.List.Sums.{sum_by-cons}
use Rattle.tau_base.specs.declared.value.Call.{Call}
use Rattle.tau_base.specs.Database.{Db, written}
use Rattle.tau_base.proofs.Logic.{or_true, or_left, below_or_not, some_is}
use Rattle.tau_proc.specs.declared.proc.Proc.{Proc}
use Rattle.tau_proc.specs.Effect.{Effect}
use Rattle.tau_model.specs.History.{Numbered, Act, Member, Before, means, trace}
use Rattle.tau_inspect.specs.Executed.{numbered, history, effects}
use Rattle.tau_inspect.specs.ByNumber.{is_in, IsUnique}
use Rattle.tau_inspect.specs.Taint.{Marks, Once, is_missing, is_tainted, passed, marks_after, taints}

pub none_some : {A : Type 0} (x : A) → ◌≡◌ {A = Option A} None (Some x) → ⊥
none_some x e = cc

-- ---- members by their index

pub member_get : {A : Type 0} (x : A) (xs : List A) → Member x xs → (i : ℕ) × (slice_get xs i ≡ Some x)
member_get x [] m = absurd m
member_get x (y ∷ ys) (inl e) = (0, ap (λ z. Some z) e)
member_get x (y ∷ ys) (inr m) = let w = member_get x ys m in (suc w.0, w.1)

pub get_member : {A : Type 0} (x : A) (xs : List A) (i : ℕ) → slice_get xs i ≡ Some x → Member x xs
get_member x [] i e = absurd (none_some x e)
get_member x (y ∷ ys) zero e = inl (some_is y x e)
get_member x (y ∷ ys) (suc i) e = inr (get_member x ys i e)

before_gets : {A : Type 0} (u t : A) (xs : List A) → Before u t xs → (i : ℕ) × (j : ℕ) × (i < j) × (slice_get xs i ≡ Some u) × (slice_get xs j ≡ Some t)
before_gets u t [] b = absurd b
before_gets u t (x ∷ xs) (inl p) = let w = member_get t xs p.1 in (0, suc w.0, omega arith, ap (λ z. Some z) p.0, w.1)
before_gets u t (x ∷ xs) (inr b) = let w = before_gets u t xs b in (suc w.0, suc w.1, omega (arith, w.2), w.3, w.4)

-- ---- numbers

pub in_get : (k : ℕ) (xs : List ℕ) (i : ℕ) → slice_get xs i ≡ Some k → is_in k xs ≡ true
in_get k [] i e = absurd (none_some k e)
in_get k (y ∷ ys) zero e = (let same : y ≡ k = some_is y k e in let test : (y == k) ≡ true = grind (arith, nat_tests) in or_left (y == k) (is_in k ys) test)
in_get k (y ∷ ys) (suc i) e = or_true (y == k) (is_in k ys) (in_get k ys i e)

pub get_in : (k : ℕ) (xs : List ℕ) → is_in k xs ≡ true → (i : ℕ) × (slice_get xs i ≡ Some k)
get_in k [] e = absurd (both_ways false refl e)
get_in k (y ∷ ys) e = elim (or_cases (y == k) (is_in k ys) e) [
  | inl t ↦ (let same : y ≡ k = grind (arith, nat_tests) in (0, ap (λ (z : ℕ). Some z) same))
  | inr t ↦ let w = get_in k ys t in (suc w.0, w.1)
]

step : (k y : ℕ) (ys : List ℕ) → count_by (λ n. n == k) (y ∷ ys) ≡ cond (y == k) 1 0 + count_by (λ n. n == k) ys
step k y ys = sum_by-cons (λ (n : ℕ). cond (n == k) 1 0) y ys

counted : (k y : ℕ) (ys : List ℕ) → count_by (λ n. n == k) ys ≤ count_by (λ n. n == k) (y ∷ ys)
counted k y ys = omega (arith, step k y ys)

found : (k y : ℕ) (ys : List ℕ) → y ≡ k → count_by (λ n. n == k) (y ∷ ys) ≡ 1 + count_by (λ n. n == k) ys
found k y ys same = (let test : (y == k) ≡ true = grind (arith, nat_tests) in step k y ys ∙ ap (λ (b : Bool). cond b 1 0 + count_by (λ n. n == k) ys) test)

one_place : (k : ℕ) (xs : List ℕ) (i : ℕ) → slice_get xs i ≡ Some k → 1 ≤ count_by (λ n. n == k) xs
one_place k [] i e = absurd (none_some k e)
one_place k (y ∷ ys) zero e = (let is = found k y ys (some_is y k e) in omega (arith, is))
one_place k (y ∷ ys) (suc i) e = (let le = counted k y ys in let more = one_place k ys i e in omega (arith, le, more))

two_places : (k : ℕ) (xs : List ℕ) (i j : ℕ) → i < j → slice_get xs i ≡ Some k → slice_get xs j ≡ Some k → 2 ≤ count_by (λ n. n == k) xs
two_places k [] i j lt a b = absurd (none_some k a)
two_places k (y ∷ ys) i zero lt a b = absurd (omega (arith, lt))
two_places k (y ∷ ys) zero (suc j) lt a b = (let is = found k y ys (some_is y k a) in let more = one_place k ys j b in omega (arith, is, more))
two_places k (y ∷ ys) (suc i) (suc j) lt a b = (let le = counted k y ys in let more = two_places k ys i j (omega (arith, lt)) a b in omega (arith, le, more))

-- numbers of which each stands there at most once
pub unique_counts : (xs : List ℕ) → ((k i : ℕ) → slice_get xs i ≡ Some k → count_by (λ n. n == k) xs ≤ 1) → IsUnique xs
unique_counts xs once i j k a b = elim (below_or_not i j) [
  | inl lt ↦ absurd (let two = two_places k xs i j lt a b in let one = once k i a in omega (arith, two, one))
  | inr le ↦ elim (below_or_not j i) [
    | inl lt ↦ absurd (let two = two_places k xs j i lt b a in let one = once k j b in omega (arith, two, one))
    | inr ge ↦ omega (arith, le, ge)
  ]
]

pub member_range : (n a k : ℕ) → a ≤ k → k < a + n → Member k (range_with_len a n)
member_range zero a k low high = absurd (omega (arith, low, high))
member_range (suc n) a k low high = elim (below_or_not a k) [
  | inl lt ↦ inr (member_range n (a + 1) k (omega (arith, lt)) (omega (arith, high)))
  | inr le ↦ inl (omega (arith, le, low))
]

-- ---- the calls of an order

module _ (procs : List Proc) (calls : List Call) where
  abbrev pub run : List ℕ → Db → List (Act Numbered)
  run order db = trace (means procs) (history calls order) db

  -- the call at a place, by its number and effect there
  pub act_at : (order : List ℕ) (db : Db) (i k : ℕ) (e : Effect) → slice_get order i ≡ Some k → slice_get (effects (run order db)) i ≡ Some e →
      slice_get (run order db) i ≡ Some (record { call = numbered calls k; effect = e })
  act_at [] db i k e a b = absurd (none_some k a)
  act_at (n ∷ ns) db zero k e a b =
      let p : n ≡ k = some_is n k a in
      let q : means procs (numbered calls n) db ≡ e = some_is (means procs (numbered calls n) db) e b in
      λ j. Some (record { call = numbered calls (p j); effect = q j })
  act_at (n ∷ ns) db (suc i) k e a b = act_at ns (written (means procs (numbered calls n) db).writes db) i k e a b

  pub number_at : (order : List ℕ) (db : Db) (i : ℕ) (x : Act Numbered) → slice_get (run order db) i ≡ Some x → slice_get order i ≡ Some x.call.number
  number_at [] db i x e = absurd (none_some x e)
  number_at (n ∷ ns) db zero x e = ap (λ (y : Act Numbered). Some y.call.number) (some_is (record { call = numbered calls n; effect = means procs (numbered calls n) db }) x e)
  number_at (n ∷ ns) db (suc i) x e = number_at ns (written (means procs (numbered calls n) db).writes db) i x e

  pub run_length : (order : List ℕ) (db : Db) → length (run order db) ≡ length order
  run_length [] db = refl
  run_length (n ∷ ns) db = ap suc (run_length ns (written (means procs (numbered calls n) db).writes db))

  module _ (order : List ℕ) (unique : IsUnique order) (db : Db) where
    -- there is one call with the number that stands at a place
    pub the_act : (i k : ℕ) (y x : Act Numbered) → slice_get order i ≡ Some k → slice_get (run order db) i ≡ Some y → Member x (run order db) → x.call.number ≡ k → x ≡ y
    the_act i k y x at there m is =
        let w = member_get x (run order db) m in
        let same : w.0 ≡ i = unique w.0 i k (number_at order db w.0 x w.1 ∙ ap (λ (n : ℕ). Some n) is) at in
        some_is x y (sym w.1 ∙ ap (slice_get (run order db)) same ∙ there)

    pub once : Once (run order db)
    once x b =
        let w = before_gets x x (run order db) b in
        let same : w.0 ≡ w.1 = unique w.0 w.1 x.call.number (number_at order db w.0 x w.3) (number_at order db w.1 x w.4) in
        omega (arith, w.2, same)

-- ---- what the marks say, place by place

module _ (taken : Numbered → Bool) where
  pub taint_at : (xs : List (Act Numbered)) (marks : Marks) (i : ℕ) (x : Act Numbered) → slice_get xs i ≡ Some x →
      slice_get (taints marks (effects xs) (map (is_missing taken) xs)) i ≡ Some (is_tainted (marks_after taken marks (take i xs)) x.effect)
  unfolding taints
  taint_at [] marks i x e = absurd (none_some x e)
  taint_at (y ∷ ys) marks zero x e = ap (λ (z : Act Numbered). Some (is_tainted marks z.effect)) (some_is y x e)
  taint_at (y ∷ ys) marks (suc i) x e = taint_at ys (passed taken marks y) i x e

-- a list around one of its places
pub split_at : {A : Type 0} (xs : List A) (i : ℕ) (x : A) → slice_get xs i ≡ Some x → xs ≡ take i xs ++ x ∷ drop (suc i) xs
split_at [] i x e = absurd (none_some x e)
split_at (y ∷ ys) zero x e = ap (λ z. z ∷ ys) (some_is y x e)
split_at (y ∷ ys) (suc i) x e = ap (λ l. y ∷ l) (split_at ys i x e)
