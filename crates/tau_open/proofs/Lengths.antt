-- The first disk with a length, among those that were asked.
use Rattle.std.proofs.Common.{ℕ, ◌≡◌, ◌+◌, ◌<◌, List, [], ◌∷◌, refl, sym, ◌∙◌, subst, inl, inr, true, false, length, arith}
use Rattle.std.specs.Prelude.{Option, Some, None, slice_get, Bool, ◌==◌, cond}
use Rattle.std.proofs.lemmas.Bool.{cases_eq}
use Rattle.std.proofs.lemmas.Bool.Decides.{nat_tests}
use Rattle.tau_disk.specs.Used.{AreEmpty, IsFirstLong}
use Rattle.tau_open.specs.Opening.{lower_of}
use Rattle.tau_base.proofs.Logic.{some_is}

module _ {D : Type 0} (tells : Type 0) (seen : D → List ℕ) (old : List D) where
  -- what is known of the first j disks by the first long one among them
  abbrev pub Found : ℕ → Option (ℕ × ℕ) → Type 0
  Found j None = AreEmpty tells seen old j
  Found j (Some found) = (found.0 < j) × (tells → IsFirstLong seen old found.0 found.1)

  pub found_first : Found 0 None
  found_first i d low was t = absurd (omega (arith, low))

  no_bytes : (xs : List ℕ) → length xs ≡ 0 → xs ≡ []
  no_bytes [] is = refl
  no_bytes (x ∷ xs) is = absurd (omega (arith, is))

  pub empty_more : (j : ℕ) (d : D) → AreEmpty tells seen old j → slice_get old j ≡ Some d → (tells → seen d ≡ []) → AreEmpty tells seen old (j + 1)
  empty_more j d empty here none i b low was t = elim (cases_eq i j) [
    | inl same ↦
        let mine : slice_get old j ≡ Some b = subst (λ (k : ℕ). slice_get old k ≡ Some b) same was in
        subst (λ (z : D). seen z ≡ []) (some_is d b (sym here ∙ mine)) (none t)
    | inr other ↦ empty i b (omega (arith, low, other)) was t
  ]

  found_one : (j : ℕ) (d : D) (long : ℕ) → AreEmpty tells seen old j → slice_get old j ≡ Some d → (tells → long ≡ length (seen d)) →
      (b : Bool) → (long == 0) ≡ b → Found (j + 1) (cond b None (Some (j, long)))
  found_one j d long empty here is true zero = empty_more j d empty here (λ t. let none : long ≡ 0 = grind (arith, nat_tests, zero) in no_bytes (seen d) (sym (is t) ∙ none))
  found_one j d long empty here is false some =
      (omega arith, λ t. ((d, here, sym (is t)), grind (arith, nat_tests, some), λ i b low was. empty i b low was t))

  pub found_more : (j : ℕ) (first : Option (ℕ × ℕ)) (d : D) (long : ℕ) → Found j first → slice_get old j ≡ Some d → (tells → long ≡ length (seen d)) → Found (j + 1) (lower_of first j long)
  found_more j None d long empty here is = found_one j d long empty here is (long == 0) refl
  found_more j (Some found) d long had here is = (omega (arith, had.0), had.1)
