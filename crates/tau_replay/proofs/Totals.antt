-- Totals over views, and what holds of each view after a change of one.
use Rattle.std.proofs.Common.{◌≡◌, ◌≢◌, ◌⊎◌, ℕ, zero, suc, ◌+◌, ◌<◌, ◌≤◌, List, [], ◌∷◌, ◌++◌, length, set, refl, sym, ap, subst, ⊎_elim, inl, inr, arith}
use mathlib.Core.Option.{some, some-ne-none, some-injective}
use lib.ListN.{get_elem?}
use Rattle.atomic_table.proofs.Lists.{at_set, at_snoc}
use Rattle.tau_replay.specs.declared.view.View.{View}
use Rattle.tau_replay.specs.Rule.{Hand, weigh, total}

pub weigh_append : (h : ℕ → ℕ) (xs ys : List Hand) → weigh h (xs ++ ys) ≡ weigh h xs + weigh h ys
weigh_append h [] ys = omega arith
weigh_append h (x ∷ xs) ys = let r = weigh_append h xs ys in omega arith

pub total_set : (f : View → ℕ) (views : List View) (k : ℕ) (v w : View) → get_elem? views k ≡ some v → total f (set views k w) + f v ≡ total f views + f w
total_set f [] k v w e = absurd (some-ne-none v (sym e))
total_set f (x ∷ xs) zero v w e = let r = ap f (some-injective x v e) in omega arith
total_set f (x ∷ xs) (suc k) v w e = let r = total_set f xs k v w e in omega arith

pub total_snoc : (f : View → ℕ) (views : List View) (w : View) → total f (views ++ w ∷ []) ≡ total f views + f w
total_snoc f [] w = omega arith
total_snoc f (x ∷ xs) w = let r = total_snoc f xs w in omega arith

-- one view's part, and another's, are within the total
pub total_one : (f : View → ℕ) (views : List View) (k : ℕ) (v : View) → get_elem? views k ≡ some v → f v ≤ total f views
total_one f [] k v e = absurd (some-ne-none v (sym e))
total_one f (x ∷ xs) zero v e = let r = ap f (some-injective x v e) in omega arith
total_one f (x ∷ xs) (suc k) v e = let r = total_one f xs k v e in omega arith

pub total_two : (f : View → ℕ) (views : List View) (j k : ℕ) (u v : View) → j ≢ k → get_elem? views j ≡ some u → get_elem? views k ≡ some v → f u + f v ≤ total f views
total_two f [] j k u v n a b = absurd (some-ne-none v (sym b))
total_two f (x ∷ xs) zero zero u v n a b = absurd (n refl)
total_two f (x ∷ xs) zero (suc k) u v n a b = let r = ap f (some-injective x u a) in let q = total_one f xs k v b in omega arith
total_two f (x ∷ xs) (suc j) zero u v n a b = let r = ap f (some-injective x v b) in let q = total_one f xs j u a in omega arith
total_two f (x ∷ xs) (suc j) (suc k) u v n a b = let r = total_two f xs j k u v (λ e. n (ap suc e)) a b in omega arith

pub each_set : (P : ℕ → View → Type 0) (views : List View) (k : ℕ) (w : View) → ((j : ℕ) (u : View) → j ≢ k → get_elem? views j ≡ some u → P j u) → P k w
    → (j : ℕ) (u : View) → get_elem? (set views k w) j ≡ some u → P j u
each_set P views k w others mine j u e =
    ⊎_elim
    (λ (x : (j ≡ k) × (w ≡ u)). subst (λ (y : ℕ × View). P y.0 y.1) (λ i. (sym x.0 i, x.1 i)) mine)
    (λ (x : (j ≢ k) × (get_elem? views j ≡ some u)). others j u x.0 x.1)
    (at_set views k j w u e)

-- of a view at the end, whatever its number
pub each_snoc : (P : ℕ → View → Type 0) (views : List View) (w : View) → ((j : ℕ) (u : View) → get_elem? views j ≡ some u → P j u) → ((j : ℕ) → P j w)
    → (j : ℕ) (u : View) → get_elem? (views ++ w ∷ []) j ≡ some u → P j u
each_snoc P views w others mine j u e =
    ⊎_elim (others j u) (λ (x : w ≡ u). subst (P j) x (mine j)) (at_snoc views w u j e)

pub at_end : (views : List View) (w u : View) (j : ℕ) → get_elem? (views ++ w ∷ []) j ≡ some u → (get_elem? views j ≡ some u) ⊎ ((j ≡ length views) × (w ≡ u))
at_end [] w u zero e = inr (refl, some-injective w u e)
at_end [] w u (suc j) e = absurd (some-ne-none u (sym e))
at_end (x ∷ xs) w u zero e = inl e
at_end (x ∷ xs) w u (suc j) e = ⊎_elim inl (λ (t : (j ≡ length xs) × (w ≡ u)). inr (ap suc t.0, t.1)) (at_end xs w u j e)

-- of a view at the end, with its number
pub each_end : (P : ℕ → View → Type 0) (views : List View) (w : View) → ((j : ℕ) (u : View) → get_elem? views j ≡ some u → P j u) → P (length views) w
    → (j : ℕ) (u : View) → get_elem? (views ++ w ∷ []) j ≡ some u → P j u
each_end P views w others mine j u e =
    ⊎_elim (others j u) (λ (x : (j ≡ length views) × (w ≡ u)). subst (λ (y : ℕ × View). P y.0 y.1) (λ i. (sym x.0 i, x.1 i)) mine) (at_end views w u j e)

pub inside : (views : List View) (k : ℕ) (v : View) → get_elem? views k ≡ some v → k < length views
inside [] k v e = absurd (some-ne-none v (sym e))
inside (x ∷ xs) zero v e = omega arith
inside (x ∷ xs) (suc k) v e = let r = inside xs k v e in omega arith

pub there : (views : List View) (k : ℕ) → k < length views → (v : View) × (get_elem? views k ≡ some v)
there [] k l = absurd (omega arith)
there (x ∷ xs) zero l = (x, refl)
there (x ∷ xs) (suc k) l = there xs k (omega arith)
