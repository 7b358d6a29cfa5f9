-- Lists and their elements.
use Rattle.std.proofs.Common.{Bool, true, false, ◌≡◌, inl, inr, List, [], ◌∷◌, ◌++◌, map, refl, sym, ap, subst, ◌∙◌}
use Rattle.std.specs.Prelude.{◌&&◌, ◌||◌}
use Rattle.std.specs.List.{filter, list_any}
use Rattle.std.proofs.lemmas.Bool.{cases_Bool}
use Rattle.tau_model.specs.History.{Member, Before}
use Rattle.tau_model.proofs.Assembling.{member_mapped}

pub map_member : {A B : Type 0} (f : A → B) (x : A) (xs : List A) → Member x xs → Member (f x) (map f xs)
map_member f x [] m = absurd m
map_member f x (y ∷ xs) (inl e) = inl (ap f e)
map_member f x (y ∷ xs) (inr m) = inr (map_member f x xs m)

pub before_map : {A B : Type 0} (f : A → B) (b c : B) (xs : List A) → Before b c (map f xs) → (u : A) × (t : A) × Before u t xs × (f u ≡ b) × (f t ≡ c)
before_map f b c [] m = absurd m
before_map f b c (x ∷ xs) (inl m) = let w = member_mapped f c xs m.1 in (x, w.0, inl (refl, w.1), m.0, w.2)
before_map f b c (x ∷ xs) (inr m) = let w = before_map f b c xs m in (w.0, w.1, inr w.2, w.3, w.4)

pub filter_map : {A B : Type 0} (f : A → B) (q : B → Bool) (p : A → Bool) (xs : List A) → ((x : A) → Member x xs → q (f x) ≡ p x) → filter q (map f xs) ≡ map f (filter p xs)
filter_map f q p [] h = refl
filter_map {A} {B} f q p (x ∷ xs) h = elim (cases_Bool (p x)) [
  | inl is ↦ rw (h x (inl refl), is) (ap (λ (l : List B). f x ∷ l) (filter_map f q p xs (λ y m. h y (inr m))))
  | inr no' ↦ rw (h x (inl refl), no') (filter_map f q p xs (λ y m. h y (inr m)))
]

pub filter_twice : {A : Type 0} (p q : A → Bool) (xs : List A) → filter p (filter q xs) ≡ filter (λ x. q x && p x) xs
filter_twice p q [] = refl
filter_twice {A} p q (x ∷ xs) = elim (cases_Bool (q x)) [
  | inl is ↦ rw is (elim (cases_Bool (p x)) [
    | inl here ↦ rw here (ap (λ (l : List A). x ∷ l) (filter_twice p q xs))
    | inr not' ↦ rw not' (filter_twice p q xs)
  ])
  | inr no' ↦ rw no' (filter_twice p q xs)
]

pub filter_append : {A : Type 0} (p : A → Bool) (xs ys : List A) → filter p (xs ++ ys) ≡ filter p xs ++ filter p ys
filter_append p [] ys = refl
filter_append {A} p (x ∷ xs) ys = elim (cases_Bool (p x)) [
  | inl is ↦ rw is (ap (λ (l : List A). x ∷ l) (filter_append p xs ys))
  | inr no' ↦ rw no' (filter_append p xs ys)
]

pub any_true : {A : Type 0} (p : A → Bool) (x : A) (xs : List A) → Member x xs → p x ≡ true → list_any p xs ≡ true
any_true p x [] m e = absurd m
any_true {A} p x (y ∷ xs) (inl is) e = let f : p y ≡ true = ap p is ∙ e in rw f refl
any_true p x (y ∷ xs) (inr m) e = elim (cases_Bool (p y)) [
  | inl is ↦ rw is refl
  | inr no' ↦ rw no' (any_true p x xs m e)
]

pub any_member : {A : Type 0} (p : A → Bool) (xs : List A) → list_any p xs ≡ true → (x : A) × Member x xs × (p x ≡ true)
any_member p [] e = absurd cc
any_member {A} p (y ∷ xs) e = elim (cases_Bool (p y)) [
  | inl is ↦ (y, inl refl, is)
  | inr no' ↦ let w = any_member p xs (subst (λ (b : Bool). b || list_any p xs ≡ true) no' e) in (w.0, inr w.1, w.2)
]

pub bool_same : (a b : Bool) → (a ≡ true → b ≡ true) → (b ≡ true → a ≡ true) → a ≡ b
bool_same true b f g = sym (f refl)
bool_same false true f g = g refl
bool_same false false f g = refl
