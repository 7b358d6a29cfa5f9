-- Lists: elements by index, members, maps and cuts.
use Rattle.std.proofs.Common.{List, ℕ, ◌<◌, length, ◌≡◌, take, ◌++◌, get_or, ◌∷◌, drop, ◌+◌, sym, take-append-drop, ◌∙◌, ap, arith, refl, suc, zero, [], ◌⊎◌, inr, inl, slice_index, map, ◌≢◌}
use Rattle.std.proofs.lemmas.List.{drop_more}
use Rattle.std.specs.Prelude.{slice_set, slice_index, slice_get, Some, None, slice_index_or}
use Rattle.std.proofs.Math.ListN.{set}

pub split_at : (xs : List ℕ) (p : ℕ) → p < length xs → xs ≡ take p xs ++ get_or xs p 0 ∷ drop (p + 1) xs
split_at xs p lt = sym (take-append-drop p xs) ∙ ap (λ (l : List ℕ). take p xs ++ l) (drop_more xs p 0 lt)

pub set_itself : (xs : List ℕ) (i : ℕ) → slice_set xs i (slice_index xs i) ≡ xs
set_itself [] i = refl
set_itself (x ∷ xs) zero = refl
set_itself (x ∷ xs) (suc i) = ap (λ l. x ∷ l) (set_itself xs i)

pub some_at : {A : Type 0} (xs : List A) (i : ℕ) → i < length xs → (x : A) × (slice_get xs i ≡ Some x)
some_at [] i lt = absurd (omega arith)
some_at (x ∷ xs) zero lt = (x, refl)
some_at (x ∷ xs) (suc i) lt = some_at xs i (omega arith)

pub got_front : {A : Type 0} (xs ys : List A) (i : ℕ) (x : A) → slice_get xs i ≡ Some x → slice_get (xs ++ ys) i ≡ Some x
got_front [] ys i x e = absurd cc
got_front (y ∷ xs) ys zero x e = e
got_front (y ∷ xs) ys (suc i) x e = got_front xs ys i x e

pub got_last : {A : Type 0} (xs : List A) (x : A) → slice_get (xs ++ x ∷ []) (length xs) ≡ Some x
got_last [] x = refl
got_last (y ∷ ys) x = got_last ys x

pub drop_at : {A : Type 0} (xs : List A) (i : ℕ) (x : A) → slice_get xs i ≡ Some x → drop i xs ≡ x ∷ drop (suc i) xs
drop_at [] i x e = absurd (let bad : None ≡ Some x = e in cc)
drop_at (y ∷ ys) zero x e = (let same : y ≡ x = cc in ap (λ z. z ∷ ys) same)
drop_at (y ∷ ys) (suc i) x e = drop_at ys i x e

pub got_more : {A : Type 0} (xs : List A) (y x : A) (j : ℕ) → slice_get (xs ++ y ∷ []) j ≡ Some x → (slice_get xs j ≡ Some x) ⊎ ((j ≡ length xs) × (y ≡ x))
got_more [] y x zero e = inr (refl, cc)
got_more [] y x (suc j) e = absurd (cc)
got_more (z ∷ xs) y x zero e = inl e
got_more (z ∷ xs) y x (suc j) e = elim (got_more xs y x j e) [ inl got ↦ inl got | inr q ↦ inr (ap suc q.0, q.1) ]

pub same_list : (xs ys : List ℕ) → length xs ≡ length ys → ((j : ℕ) → j < length xs → slice_index xs j ≡ slice_index ys j) → xs ≡ ys
same_list [] [] e f = refl
same_list [] (y ∷ ys) e f = absurd (omega (arith, e))
same_list (x ∷ xs) [] e f = absurd (omega (arith, e))
same_list (x ∷ xs) (y ∷ ys) e f =
    let first : x ≡ y = f 0 (omega arith) in
    let rest : xs ≡ ys = same_list xs ys (omega (arith, e)) (λ j lt. f (suc j) (omega (arith, lt))) in
    ap (λ (z : ℕ). z ∷ xs) first ∙ ap (λ (zs : List ℕ). y ∷ zs) rest

pub get_behind : {A : Type 0} (xs ys : List A) (k : ℕ) → slice_get (xs ++ ys) (length xs + k) ≡ slice_get ys k
get_behind [] ys k = ap (slice_get ys) (let e : 0 + k ≡ k = omega arith in e)
get_behind (x ∷ xs) ys k = ap (slice_get (x ∷ (xs ++ ys))) (let e : suc (length xs) + k ≡ suc (length xs + k) = omega arith in e) ∙ get_behind xs ys k

pub got_within : {A : Type 0} (xs : List A) (j : ℕ) (x : A) → slice_get xs j ≡ Some x → j < length xs
got_within [] j x e = absurd (cc)
got_within (y ∷ xs) zero x e = omega arith
got_within (y ∷ xs) (suc j) x e = let lt = got_within xs j x e in omega (arith, lt)

pub got_or : {A : Type 0} (xs : List A) (i : ℕ) (x d : A) → slice_get xs i ≡ Some x → slice_index_or xs i d ≡ x
got_or [] i x d e = absurd cc
got_or (y ∷ xs) zero x d e = let f : y ≡ x = cc e in f
got_or (y ∷ xs) (suc i) x d e = got_or xs i x d e

pub empty_of_length : {A : Type 0} (xs : List A) → length xs ≡ 0 → xs ≡ []
empty_of_length [] e = refl
empty_of_length (x ∷ xs) e = absurd (omega (arith, e))

pub length_mapped : {A B : Type 0} (f : A → B) (xs : List A) → length (map f xs) ≡ length xs
length_mapped f [] = refl
length_mapped f (x ∷ xs) = ap suc (length_mapped f xs)

pub got_mapped : {A B : Type 0} (f : A → B) (xs : List A) (j : ℕ) (y : B) → slice_get (map f xs) j ≡ Some y → (x : A) × (slice_get xs j ≡ Some x) × (f x ≡ y)
got_mapped f [] j y e = absurd (cc)
got_mapped f (x ∷ xs) zero y e = (x, refl, cc)
got_mapped f (x ∷ xs) (suc j) y e = got_mapped f xs j y e

pub map_append : {A B : Type 0} (f : A → B) (xs ys : List A) → map f (xs ++ ys) ≡ map f xs ++ map f ys
map_append f [] ys = refl
map_append f (x ∷ xs) ys = ap (λ l. f x ∷ l) (map_append f xs ys)

pub map_map : {A B C : Type 0} (g : B → C) (f : A → B) (xs : List A) → map g (map f xs) ≡ map (λ x. g (f x)) xs
map_map g f [] = refl
map_map g f (x ∷ xs) = ap (λ l. g (f x) ∷ l) (map_map g f xs)

pub get_set_same : {A : Type 0} (xs : List A) (i : ℕ) (v : A) → i < length xs → slice_get (set xs i v) i ≡ Some v
get_set_same [] i v lt = absurd (omega (arith, lt))
get_set_same (x ∷ xs) zero v lt = refl
get_set_same (x ∷ xs) (suc i) v lt = get_set_same xs i v (omega (arith, lt))

pub get_set_other : {A : Type 0} (xs : List A) (i k : ℕ) (v : A) → k ≢ i → slice_get (set xs i v) k ≡ slice_get xs k
get_set_other [] i k v other = refl
get_set_other (x ∷ xs) zero zero v other = absurd (other refl)
get_set_other (x ∷ xs) zero (suc k) v other = refl
get_set_other (x ∷ xs) (suc i) zero v other = refl
get_set_other (x ∷ xs) (suc i) (suc k) v other = get_set_other xs i k v (λ e. other (ap (λ (n : ℕ). suc n) e))
