-- What the head has put together when the desk closes.
use Rattle.std.proofs.Common.{ℕ, zero, suc, ◌+◌, ◌<◌, ◌≤◌, ◌≡◌, false, true, Bool, List, [], ◌∷◌, set, get_or, refl, ap, ◌∙◌, Option, arith, inl, inr, get_or-set_other}
use Rattle.std.specs.Prelude.{Some}
use Rattle.std.proofs.lemmas.Bool.{cases_eq}

-- one place more is emptied
pub still_full : (fs gs : List Bool) (i n n' : ℕ) → n' ≡ n → gs ≡ set fs i false → ((k : ℕ) → i ≤ k → k < n → get_or fs k false ≡ true) → (k : ℕ) → i + 1 ≤ k → k < n' → get_or gs k false ≡ true
still_full fs gs i n n' same is full k low high =
    ap (λ (l : List Bool). get_or l k false) is ∙ get_or-set_other fs i k false false (λ e. omega (arith, e, low)) ∙ full k (omega (arith, low)) (omega (arith, high, same))

set_false : (l : List Bool) (j : ℕ) → get_or (set l j false) j false ≡ false
set_false [] j = refl
set_false (x ∷ xs) zero = refl
set_false (x ∷ xs) (suc j) = set_false xs j

pub now_empty : (fs gs : List Bool) (i : ℕ) → gs ≡ set fs i false → ((k : ℕ) → k < i → get_or fs k false ≡ false) → (k : ℕ) → k < i + 1 → get_or gs k false ≡ false
now_empty fs gs i is empty k low = ap (λ (l : List Bool). get_or l k false) is ∙ elim (cases_eq k i) [
  | inl e ↦ ap (λ (j : ℕ). get_or (set fs i false) j false) e ∙ set_false fs i
  | inr ne ↦ get_or-set_other fs i k false false ne ∙ empty k (below k i low ne)
]
  where
    below : (k i : ℕ) → k < i + 1 → (k ≡ i → ⊥) → k < i
    below k i low ne = omega (arith, low, ne)

pub same_inside : {A : Type 0} (a b : A) (x : Option (Option A)) → x ≡ Some (Some a) → x ≡ Some (Some b) → a ≡ b
same_inside a b x e f = cc
