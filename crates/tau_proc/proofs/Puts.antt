-- Where a key's entry stands in a list that is kept in the order of its keys.
use Rattle.std.proofs.Common.{◌≡◌, ℕ, zero, suc, ◌<◌, List, [], ◌∷◌, ◌++◌, length, take, drop, get_or, refl, ap, arith}
use Rattle.std.specs.Prelude.{slice_set}
use Rattle.std.specs.FinMap.{put}
use Rattle.std.specs.declared.cmp.Ordering.{Ordering}
use Rattle.std.specs.declared.cmp.Ordering.TheVariants.{Equal}

module _ {K X : Type 0} (R : K → K → Ordering) (k : K) (v : X) where
  -- over the entry whose key ties
  pub put_over : (xs : List (K × X)) (i : ℕ) (d : K × X) → i < length xs → R k (get_or xs i d).0 ≡ Equal →
      take i xs ++ put R k v (drop i xs) ≡ slice_set xs i ((get_or xs i d).0, v)
  put_over [] i d fits tied = absurd (omega (arith, fits))
  put_over (x ∷ xs) zero d fits tied = rw tied refl
  put_over (x ∷ xs) (suc i) d fits tied = ap (λ (l : List (K × X)). x ∷ l) (put_over xs i d (omega (arith, fits)) tied)
