-- The ends of streams, one after another.
use Rattle.std.proofs.Common.{ℕ, zero, suc, ◌≡◌, ◌≢◌, ◌+◌, ◌<◌, List, [], ◌∷◌, refl, sym, ap, subst, ◌∙◌, inl, inr, length, map, arith}
use Rattle.std.specs.Prelude.{Some, slice_get, slice_index, slice_set}
use Rattle.std.proofs.lemmas.Bool.{cases_eq}
use Rattle.tau_base.proofs.Logic.{some_is}

index_same : (xs : List ℕ) (i v : ℕ) → i < length xs → slice_index (slice_set xs i v) i ≡ v
index_same [] i v lt = absurd (omega (arith, lt))
index_same (x ∷ xs) zero v lt = refl
index_same (x ∷ xs) (suc i) v lt = index_same xs i v (omega (arith, lt))

index_other : (xs : List ℕ) (i k v : ℕ) → k ≢ i → slice_index (slice_set xs i v) k ≡ slice_index xs k
index_other [] i k v other = refl
index_other (x ∷ xs) zero zero v other = absurd (other refl)
index_other (x ∷ xs) zero (suc k) v other = refl
index_other (x ∷ xs) (suc i) zero v other = refl
index_other (x ∷ xs) (suc i) (suc k) v other = index_other xs i k v (λ e. other (ap (λ (n : ℕ). suc n) e))

pub set_long : (xs : List ℕ) (i v : ℕ) → length (slice_set xs i v) ≡ length xs
set_long [] i v = refl
set_long (x ∷ xs) zero v = refl
set_long (x ∷ xs) (suc i) v = ap (λ (n : ℕ). suc n) (set_long xs i v)

module _ {A : Type 0} (f : A → ℕ) (items : List A) where
  -- the values below j are those of the items
  abbrev pub Filled : ℕ → List ℕ → Type 0
  Filled j values = (i : ℕ) (p : A) → i < j → slice_get items i ≡ Some p → slice_index values i ≡ f p

  pub filled_more : (j : ℕ) (values : List ℕ) (x : A) (v : ℕ) → Filled j values → slice_get items j ≡ Some x → j < length values → v ≡ f x → Filled (j + 1) (slice_set values j v)
  filled_more j values x v so here lt is i p low at = elim (cases_eq i j) [
    | inl same ↦
        let it : x ≡ p = some_is x p (sym here ∙ subst (λ (k : ℕ). slice_get items k ≡ Some p) same at) in
        subst (λ (k : ℕ). slice_index (slice_set values j v) k ≡ f p) (sym same) (index_same values j v lt ∙ is ∙ ap f it)
    | inr other ↦ index_other values j i v other ∙ so i p (omega (arith, low, other)) at
  ]

pub filled_is : {A : Type 0} (f : A → ℕ) (items : List A) (values : List ℕ) → ((i : ℕ) (p : A) → slice_get items i ≡ Some p → slice_index values i ≡ f p) → length values ≡ length items → values ≡ map f items
filled_is f [] [] so long = refl
filled_is f [] (v ∷ values) so long = absurd (omega (arith, long))
filled_is f (x ∷ items) [] so long = absurd (omega (arith, long))
filled_is f (x ∷ items) (v ∷ values) so long =
    let first : v ≡ f x = so 0 x refl in
    let rest = filled_is f items values (λ i p at. so (suc i) p at) (omega (arith, long)) in
    ap (λ (n : ℕ). n ∷ values) first ∙ ap (λ (vs : List ℕ). f x ∷ vs) rest
