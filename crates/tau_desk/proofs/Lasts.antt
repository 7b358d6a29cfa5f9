-- A list after which something was put.
use Rattle.std.proofs.Common.{◌≡◌, ◌≤◌, List, [], ◌∷◌, ◌++◌, length, sym, subst, arith}

some_at : {A : Type 0} (before : List A) (kept : A) → 1 ≤ length (before ++ kept ∷ [])
some_at [] kept = omega arith
some_at (b ∷ bs) kept = omega arith

pub some_last : {A : Type 0} (xs before : List A) (kept : A) → xs ≡ before ++ kept ∷ [] → 1 ≤ length xs
some_last {A} xs before kept is = subst (λ (ys : List A). 1 ≤ length ys) (sym is) (some_at before kept)
