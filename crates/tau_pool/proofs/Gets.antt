-- Elements of lists by index, and members.
use Rattle.std.proofs.Common.{ℕ, zero, suc, ◌≡◌, ◌+◌, ◌⊎◌, inl, inr, List, [], ◌∷◌, ◌++◌, take, drop, refl, sym, ap, ◌∙◌, arith}
use Rattle.std.specs.Prelude.{Some, slice_get}
use Rattle.tau_model.specs.History.{Member}
use Rattle.tau_base.proofs.Logic.{some_is}

pub get_member : {A : Type 0} (xs : List A) (i : ℕ) (x : A) → slice_get xs i ≡ Some x → Member x xs
get_member [] i x is = absurd cc
get_member (y ∷ xs) zero x is = inl (some_is y x is)
get_member (y ∷ xs) (suc i) x is = inr (get_member xs i x is)

pub member_get : {A : Type 0} (xs : List A) (x : A) → Member x xs → (i : ℕ) × (slice_get xs i ≡ Some x)
member_get [] x m = absurd m
member_get {A} (y ∷ xs) x (inl is) = (0, ap (λ (z : A). Some z) is)
member_get (y ∷ xs) x (inr m) = let (i, is) = member_get xs x m in (suc i, is)

pub member_split : {A : Type 0} (p : ℕ) (xs : List A) (x : A) → Member x xs → Member x (take p xs) ⊎ Member x (drop p xs)
member_split zero xs x m = inr m
member_split (suc p) [] x m = absurd m
member_split (suc p) (y ∷ xs) x (inl is) = inl (inl is)
member_split (suc p) (y ∷ xs) x (inr m) = elim (member_split p xs x m) [ inl a ↦ inl (inr a) | inr b ↦ inr b ]

pub member_front : {A : Type 0} (xs ys : List A) (x : A) → Member x xs → Member x (xs ++ ys)
member_front [] ys x m = absurd m
member_front (z ∷ xs) ys x (inl is) = inl is
member_front (z ∷ xs) ys x (inr m) = inr (member_front xs ys x m)

pub member_back : {A : Type 0} (xs ys : List A) (x : A) → Member x ys → Member x (xs ++ ys)
member_back [] ys x m = m
member_back (z ∷ xs) ys x m = inr (member_back xs ys x m)

pub member_either : {A : Type 0} (xs ys : List A) (x : A) → Member x (xs ++ ys) → Member x xs ⊎ Member x ys
member_either [] ys x m = inr m
member_either (z ∷ xs) ys x (inl is) = inl (inl is)
member_either (z ∷ xs) ys x (inr m) = elim (member_either xs ys x m) [ inl a ↦ inl (inr a) | inr b ↦ inr b ]

drop_none : {A : Type 0} (n : ℕ) → drop {A = A} n [] ≡ []
drop_none zero = refl
drop_none (suc n) = refl

pub drop_more : {A : Type 0} (n m : ℕ) (xs : List A) → drop (n + m) xs ≡ drop m (drop n xs)
drop_more {A} n m [] = drop_none (n + m) ∙ sym (ap (λ (ys : List A). drop m ys) (drop_none n) ∙ drop_none m)
drop_more {A} zero m (x ∷ xs) = ap (λ (k : ℕ). drop k (x ∷ xs)) (omega arith)
drop_more {A} (suc n) m (x ∷ xs) =
    let next : suc n + m ≡ suc (n + m) = omega arith in
    ap (λ (k : ℕ). drop k (x ∷ xs)) next ∙ drop_more n m xs
