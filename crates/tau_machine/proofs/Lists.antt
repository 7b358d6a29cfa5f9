-- Lists of acts: what stands before what, filters, numbers.
use Rattle.std.proofs.Common.{ℕ, zero, suc, ◌+◌, ◌≤◌, Bool, true, false, ◌≡◌, ◌⊎◌, inl, inr, List, [], ◌∷◌, ◌++◌, refl, sym, ap, subst, ◌∙◌, arith}
use Rattle.std.specs.Prelude.{◌==◌}
use Rattle.std.specs.List.{filter}
use Rattle.std.proofs.lemmas.Bool.{cases_Bool, eq-eqb, cases_eq, ne_eqb}
use Rattle.tau_model.specs.History.{Act, Member, Before, Reordered}
use Rattle.tau_machine.specs.Hands.{Txn}
use Rattle.tau_machine.specs.Accounts.{one}

abbrev pub in_acts : ℕ → List (Act Txn) → ℕ
in_acts n [] = 0
in_acts n (t ∷ ts) = one n t.call.call.number + in_acts n ts

-- of two elements one stands before the other, or they are equal
pub either_way : {A : Type 0} (u t : A) (xs : List A) → Member u xs → Member t xs → (u ≡ t) ⊎ (Before u t xs ⊎ Before t u xs)
either_way u t [] m n = absurd m
either_way u t (x ∷ xs) (inl e) (inl f) = inl (sym e ∙ f)
either_way u t (x ∷ xs) (inl e) (inr n) = inr (inl (inl (e, n)))
either_way u t (x ∷ xs) (inr m) (inl f) = inr (inr (inl (f, m)))
either_way u t (x ∷ xs) (inr m) (inr n) = elim (either_way u t xs m n) [
  | inl e ↦ inl e
  | inr b ↦ elim b [ inl c ↦ inr (inl (inr c)) | inr c ↦ inr (inr (inr c)) ]
]

pub member_of : {A : Type 0} (p : A → Bool) (a : A) (xs : List A) → Member a xs → p a ≡ true → Member a (filter p xs)
member_of p a [] m e = absurd m
member_of {A} p a (x ∷ xs) (inl is) e = rw (subst (λ (y : A). p y ≡ true) (sym is) e) (inl is)
member_of p a (x ∷ xs) (inr m) e = elim (cases_Bool (p x)) [
  | inl y ↦ rw y (inr (member_of p a xs m e))
  | inr n ↦ rw n (member_of p a xs m e)
]

pub before_of : {A : Type 0} (p : A → Bool) (u t : A) (xs : List A) → Before u t xs → p u ≡ true → p t ≡ true → Before u t (filter p xs)
before_of p u t [] b e f = absurd b
before_of {A} p u t (x ∷ xs) (inl w) e f = rw (subst (λ (y : A). p y ≡ true) (sym w.0) e) (inl (w.0, member_of p t xs w.1 f))
before_of p u t (x ∷ xs) (inr b) e f = elim (cases_Bool (p x)) [
  | inl y ↦ rw y (inr (before_of p u t xs b e f))
  | inr n ↦ rw n (before_of p u t xs b e f)
]

pub one_same : (n m : ℕ) → n ≡ m → one n m ≡ 1
one_same n m e = let p : (n == m) ≡ true = eq-eqb n m e in rw p refl

pub member_counts : (n : ℕ) (t : Act Txn) (ts : List (Act Txn)) → Member t ts → n ≡ t.call.call.number → 1 ≤ in_acts n ts
member_counts n t [] m e = absurd m
member_counts n t (x ∷ xs) (inl is) e = let p = one_same n x.call.call.number (e ∙ ap (λ (y : Act Txn). y.call.call.number) (sym is)) in omega arith
member_counts n t (x ∷ xs) (inr m) e = let p = member_counts n t xs m e in omega arith

pub before_counts : (n : ℕ) (u t : Act Txn) (ts : List (Act Txn)) → Before u t ts → n ≡ u.call.call.number → n ≡ t.call.call.number → 2 ≤ in_acts n ts
before_counts n u t [] b e f = absurd b
before_counts n u t (x ∷ xs) (inl w) e f =
    let p = one_same n x.call.call.number (e ∙ ap (λ (y : Act Txn). y.call.call.number) (sym w.0)) in let q = member_counts n t xs w.1 f in omega arith
before_counts n u t (x ∷ xs) (inr b) e f = let p = before_counts n u t xs b e f in omega arith

counted : (n : ℕ) (ts : List (Act Txn)) → 1 ≤ in_acts n ts → (t : Act Txn) × Member t ts × (n ≡ t.call.call.number)
counted n [] h = absurd (omega arith)
counted n (x ∷ xs) h = elim (cases_eq n x.call.call.number) [
  | inl e ↦ (x, inl refl, e)
  | inr ne ↦
      let p : (n == x.call.call.number) ≡ false = ne_eqb n x.call.call.number ne in
      let q : one n x.call.call.number ≡ 0 = rw p refl in
      let (t, m, e) = counted n xs (omega arith) in (t, inr m, e)
]

-- where no two have one number, each number stands once
pub apart_counts : (ts : List (Act Txn)) → ((u t : Act Txn) → Before u t ts → u.call.call.number ≡ t.call.call.number → ⊥) → (n : ℕ) → in_acts n ts ≤ 1
apart_counts [] h n = omega arith
apart_counts (x ∷ xs) h n = elim (cases_eq n x.call.call.number) [
  | inl e ↦
      let p = one_same n x.call.call.number e in
      let rest : 1 ≤ in_acts n xs → ⊥ = (λ c. let (t, m, f) = counted n xs c in h x t (inl (refl, m)) (sym e ∙ f)) in
      let zero : in_acts n xs ≡ 0 = none (in_acts n xs) rest in
      omega arith
  | inr ne ↦
      let p : (n == x.call.call.number) ≡ false = ne_eqb n x.call.call.number ne in
      let q : one n x.call.call.number ≡ 0 = rw p refl in
      let r = apart_counts xs (λ u t b. h u t (inr b)) n in omega arith
]
  where
    none : (k : ℕ) → (1 ≤ k → ⊥) → k ≡ 0
    none zero h = refl
    none (suc k) h = absurd (h (omega arith))

acts_append : (n : ℕ) (xs ys : List (Act Txn)) → in_acts n (xs ++ ys) ≡ in_acts n xs + in_acts n ys
acts_append n [] ys = omega arith
acts_append n (t ∷ xs) ys = let e = acts_append n xs ys in omega arith

pub reordered_counts : (n : ℕ) (xs ys : List (Act Txn)) → Reordered xs ys → in_acts n ys ≡ in_acts n xs
reordered_counts n [] ys e = ap (in_acts n) e
reordered_counts n (x ∷ xs) ys (front, back, e, r) =
    let a = reordered_counts n xs (front ++ back) r in
    let b = acts_append n front back in
    let c = acts_append n front (x ∷ back) in
    let d = ap (in_acts n) e in omega arith
