-- A list, and its elements class after class.
use Rattle.std.proofs.Common.{ℕ, zero, suc, ◌<◌, false, true, ◌≡◌, List, [], ◌∷◌, ◌++◌, map, inl, inr, refl, sym, ap, subst, ◌∙◌, arith, append_assoc}
use Rattle.std.specs.Prelude.{◌==◌}
use Rattle.std.specs.List.{filter}
use Rattle.std.proofs.lemmas.List.{map-append}
use Rattle.std.proofs.lemmas.Bool.{eq-eqb, ne_eqb}
use Rattle.tau_model.specs.History.{Member, Reordered}
use Rattle.tau_machine.specs.Reports.{in_turn}

in_turn_none : {A : Type 0} (n : ℕ) → in_turn {A = A} n (λ j. []) ≡ []
in_turn_none zero = refl
in_turn_none {A} (suc n) = in_turn_none {A = A} n

in_turn_alike : {A : Type 0} (n : ℕ) (f g : ℕ → List A) → ((j : ℕ) → f j ≡ g j) → in_turn n f ≡ in_turn n g
in_turn_alike zero f g h = refl
in_turn_alike {A} (suc n) f g h =
    ap (λ (l : List A). l ++ in_turn n (λ j. f (suc j))) (h 0) ∙ ap (λ (l : List A). g 0 ++ l) (in_turn_alike n (λ j. f (suc j)) (λ j. g (suc j)) (λ j. h (suc j)))

pub in_turn_map : {A B : Type 0} (f : A → B) (n : ℕ) (g : ℕ → List A) → map f (in_turn n g) ≡ in_turn n (λ j. map f (g j))
in_turn_map f zero g = refl
in_turn_map {B = B} f (suc n) g = map-append f (g 0) (in_turn n (λ j. g (suc j))) ∙ ap (λ (l : List B). map f (g 0) ++ l) (in_turn_map f n (λ j. g (suc j)))

-- one class has an element more
class_more : {A : Type 0} (n k : ℕ) (x : A) (f g : ℕ → List A) → k < n → f k ≡ x ∷ g k → ((j : ℕ) → (j ≡ k → ⊥) → f j ≡ g j) →
    (front : List A) × (back : List A) × (in_turn n f ≡ front ++ x ∷ back) × (in_turn n g ≡ front ++ back)
class_more zero k x f g lt own other = absurd (omega arith)
class_more {A} (suc n) zero x f g lt own other =
    let rest = in_turn_alike n (λ j. f (suc j)) (λ j. g (suc j)) (λ j. other (suc j) (λ e. omega (arith, e))) in
    ([], g 0 ++ in_turn n (λ j. g (suc j)), ap (λ (l : List A). l ++ in_turn n (λ j. f (suc j))) own ∙ ap (λ (l : List A). x ∷ g 0 ++ l) rest, refl)
class_more {A} (suc n) (suc k) x f g lt own other =
    let (front, back, a, b) = class_more n k x (λ j. f (suc j)) (λ j. g (suc j)) (omega arith) own (λ j ne. other (suc j) (λ e. ne (omega (arith, e)))) in (
      g 0 ++ front,
      back,
      ap (λ (l : List A). l ++ in_turn n (λ j. f (suc j))) (other 0 (λ e. omega (arith, e))) ∙ ap (λ (l : List A). g 0 ++ l) a ∙ sym (append_assoc (g 0) front (x ∷ back)),
      ap (λ (l : List A). g 0 ++ l) b ∙ sym (append_assoc (g 0) front back),
    )

-- one element more, in its class
class_put : {A : Type 0} (class : A → ℕ) (n : ℕ) (x : A) (xs : List A) → class x < n →
    (front : List A) × (back : List A) × (in_turn n (λ w. filter (λ y. class y == w) (x ∷ xs)) ≡ front ++ x ∷ back) × (in_turn n (λ w. filter (λ y. class y == w) xs) ≡ front ++ back)
class_put class n x xs lt = class_more n (class x) x (λ w. filter (λ y. class y == w) (x ∷ xs)) (λ w. filter (λ y. class y == w) xs) lt
    (let e : (class x == class x) ≡ true = eq-eqb (class x) (class x) refl in rw e refl)
    (λ j ne. let e : (class x == j) ≡ false = ne_eqb (class x) j (λ p. ne (sym p)) in rw e refl)

pub classes : {A : Type 0} (class : A → ℕ) (n : ℕ) (xs : List A) → ((x : A) → Member x xs → class x < n) → Reordered xs (in_turn n (λ w. filter (λ x. class x == w) xs))
classes {A} class n [] h = in_turn_none {A = A} n
classes {A} class n (x ∷ xs) h = put (class_put class n x xs (h x (inl refl))) (classes class n xs (λ y m. h y (inr m)))
  where
    put : (front : List A) × (back : List A) × (in_turn n (λ w. filter (λ y. class y == w) (x ∷ xs)) ≡ front ++ x ∷ back) × (in_turn n (λ w. filter (λ y. class y == w) xs) ≡ front ++ back) →
        Reordered xs (in_turn n (λ w. filter (λ y. class y == w) xs)) → Reordered (x ∷ xs) (in_turn n (λ w. filter (λ y. class y == w) (x ∷ xs)))
    put (front, back, a, b) rest = (front, back, a, subst (λ (l : List A). Reordered xs l) b rest)

pub reordered_map : {A B : Type 0} (f : A → B) (xs ys : List A) → Reordered xs ys → Reordered (map f xs) (map f ys)
reordered_map f [] ys e = ap (map f) e
reordered_map {A} {B} f (x ∷ xs) ys (front, back, e, r) =
    (map f front, map f back, ap (map f) e ∙ map-append f front (x ∷ back), subst (λ (l : List B). Reordered (map f xs) l) (map-append f front back) (reordered_map f xs (front ++ back) r))

-- what is made of the elements, class after class
pub classes_map : {A B : Type 0} (f : A → B) (class : A → ℕ) (n : ℕ) (xs : List A) (made : ℕ → List B) → ((x : A) → Member x xs → class x < n) →
    ((w : ℕ) → made w ≡ map f (filter (λ x. class x == w) xs)) → Reordered (map f xs) (in_turn n made)
classes_map {A} {B} f class n xs made h is =
    let parts : ℕ → List A = λ w. filter (λ x. class x == w) xs in
    subst (λ (l : List B). Reordered (map f xs) l) (in_turn_map f n parts ∙ sym (in_turn_alike n made (λ w. map f (parts w)) is))
    (reordered_map f xs (in_turn n parts) (classes class n xs h))
