-- Two lists that are compared element by element.
use Rattle.std.proofs.Common.{ℕ, zero, suc, ◌+◌, ◌<◌, ◌≡◌, List, [], ◌∷◌, ◌++◌, length, take, get_or, map, refl, sym, ap, ◌∙◌, arith}
use Rattle.std.proofs.lemmas.List.{take_more}
use Rattle.tau_base.proofs.Lists.{length_mapped}

mapped_at : {A B : Type 0} (f : A → B) (xs : List A) (i : ℕ) (d : A) (e : B) → i < length xs → get_or (map f xs) i e ≡ f (get_or xs i d)
mapped_at f [] i d e lt = absurd (omega (arith, lt))
mapped_at f (x ∷ xs) zero d e lt = refl
mapped_at f (x ∷ xs) (suc i) d e lt = mapped_at f xs i d e (omega (arith, lt))

-- the images of one list are the other's elements, one element further
pub images_more : {A B : Type 0} (f : A → B) (xs : List A) (ys : List B) (i : ℕ) (d : A) (y : B) → i < length xs → length xs ≡ length ys → y ≡ get_or ys i y → f (get_or xs i d) ≡ y →
    take i (map f xs) ≡ take i ys → take (i + 1) (map f xs) ≡ take (i + 1) ys
images_more f xs ys i d y lt same there is so =
    take_more (map f xs) i y (omega (arith, lt, length_mapped f xs)) ∙ ap (λ z. take i (map f xs) ++ z ∷ []) (mapped_at f xs i d y lt ∙ is ∙ there)
    ∙ ap (λ l. l ++ get_or ys i y ∷ []) so ∙ sym (take_more ys i y (omega (arith, same, lt)))
