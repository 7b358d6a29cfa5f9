-- The lengths of the disks, one more.
use Rattle.std.proofs.Common.{ℕ, zero, suc, ◌≡◌, ◌<◌, List, [], ◌∷◌, ◌++◌, refl, sym, ap, ◌∙◌, subst, inl, inr, length, arith}
use Rattle.std.specs.Prelude.{Some, slice_get, slice_index}
use Rattle.std.proofs.lemmas.Bool.{cases_eq}
use Rattle.std.proofs.lemmas.List.{length-append}
use Rattle.tau_disk.specs.Stages.{AreLengths}
use Rattle.tau_base.proofs.Logic.{some_is}

index_seam : (xs : List ℕ) (x i : ℕ) → length xs ≡ i → slice_index (xs ++ x ∷ []) i ≡ x
index_seam [] x zero is = refl
index_seam [] x (suc i) is = absurd (omega (arith, is))
index_seam (y ∷ xs) x zero is = absurd (omega (arith, is))
index_seam (y ∷ xs) x (suc i) is = index_seam xs x i (omega (arith, is))

index_front : (xs ys : List ℕ) (i : ℕ) → i < length xs → slice_index (xs ++ ys) i ≡ slice_index xs i
index_front [] ys i lt = absurd (omega (arith, lt))
index_front (x ∷ xs) ys zero lt = refl
index_front (x ∷ xs) ys (suc i) lt = index_front xs ys i (omega (arith, lt))

module _ {D : Type 0} (tells : Type 0) (seen : D → List ℕ) (disks : List D) where
  pub lengths_none : (lengths : List ℕ) → lengths ≡ [] → AreLengths tells seen disks lengths
  lengths_none lengths none j d low was t = let no : length lengths ≡ 0 = ap (λ (xs : List ℕ). length xs) none in absurd (omega (arith, low, no))

  pub lengths_more : (lengths : List ℕ) (j : ℕ) (d : D) (long : ℕ) → length lengths ≡ j → AreLengths tells seen disks lengths → slice_get disks j ≡ Some d → (tells → long ≡ length (seen d)) →
      AreLengths tells seen disks (lengths ++ long ∷ [])
  lengths_more lengths j d long count are here is i b low was t = elim (cases_eq i j) [
    | inl same ↦
        let mine : Some d ≡ Some b = sym here ∙ subst (λ (k : ℕ). slice_get disks k ≡ Some b) same was in
        index_seam lengths long i (count ∙ sym same) ∙ is t ∙ ap (λ (z : D). length (seen z)) (some_is d b mine)
    | inr other ↦ index_front lengths (long ∷ []) i (omega (arith, low, length-append lengths (long ∷ []), count, other)) ∙ are i b (omega (arith, low, length-append lengths (long ∷ []), count, other)) was t
  ]
