-- Lists read by number, a function changed at one number.
use Rattle.std.proofs.Common.{◌≡◌, ◌≢◌, ◌⊎◌, ℕ, zero, suc, ◌<◌, ◌==◌, cond, List, [], ◌∷◌, ◌++◌, length, get_or, set, refl, sym, ap, subst, ⊎_elim, inl, inr, arith, eq-eqb, ne_eqb}
use mathlib.Core.Option.{some, some-ne-none, some-injective}
use lib.ListN.{get_elem?}
use Rattle.atomic_table.proofs.Lists.{at_set}

-- f, with x at k
abbrev pub put : {A : Type 0} → (ℕ → A) → ℕ → A → ℕ → A
put f k x i = cond (i == k) x (f i)

module _ {A : Type 0} where
  pub put_here : (f : ℕ → A) (k : ℕ) (x : A) (i : ℕ) → i ≡ k → put f k x i ≡ x
  put_here f k x i e = ap (λ b. cond b x (f i)) (eq-eqb i k e)

  pub put_else : (f : ℕ → A) (k : ℕ) (x : A) (i : ℕ) → i ≢ k → put f k x i ≡ f i
  put_else f k x i n = ap (λ b. cond b x (f i)) (ne_eqb i k n)

  pub there : (xs : List A) (k : ℕ) → k < length xs → (x : A) × (get_elem? xs k ≡ some x)
  there [] k l = absurd (omega arith)
  there (x ∷ xs) zero l = (x, refl)
  there (x ∷ xs) (suc k) l = there xs k (omega arith)

  pub inside : (xs : List A) (k : ℕ) (x : A) → get_elem? xs k ≡ some x → k < length xs
  inside [] k x e = absurd (some-ne-none x (sym e))
  inside (y ∷ xs) zero x e = omega arith
  inside (y ∷ xs) (suc k) x e = let r = inside xs k x e in omega arith

  pub index_of : (xs : List A) (k : ℕ) (x d : A) → get_elem? xs k ≡ some x → get_or xs k d ≡ x
  index_of [] k x d e = absurd (some-ne-none x (sym e))
  index_of (y ∷ xs) zero x d e = some-injective y x e
  index_of (y ∷ xs) (suc k) x d e = index_of xs k x d e

  pub at_here : (xs : List A) (k : ℕ) (x y z : A) → get_elem? xs k ≡ some x → get_elem? (set xs k y) k ≡ some z → y ≡ z
  at_here xs k x y z e f = ⊎_elim (λ (t : (k ≡ k) × (y ≡ z)). t.1) (λ (t : (k ≢ k) × (get_elem? xs k ≡ some z)). absurd (t.0 refl)) (at_set xs k k y z f)

  pub each_set : (P : ℕ → A → Type 0) (xs : List A) (k : ℕ) (w : A) → ((j : ℕ) (u : A) → j ≢ k → get_elem? xs j ≡ some u → P j u) → P k w
      → (j : ℕ) (u : A) → get_elem? (set xs k w) j ≡ some u → P j u
  each_set P xs k w others mine j u e =
      ⊎_elim
      (λ (x : (j ≡ k) × (w ≡ u)). subst (λ (y : ℕ × A). P y.0 y.1) (λ i. (sym x.0 i, x.1 i)) mine)
      (λ (x : (j ≢ k) × (get_elem? xs j ≡ some u)). others j u x.0 x.1)
      (at_set xs k j w u e)

  pub at_end : (xs : List A) (w u : A) (j : ℕ) → get_elem? (xs ++ w ∷ []) j ≡ some u → (get_elem? xs j ≡ some u) ⊎ ((j ≡ length xs) × (w ≡ u))
  at_end [] w u zero e = inr (refl, some-injective w u e)
  at_end [] w u (suc j) e = absurd (some-ne-none u (sym e))
  at_end (x ∷ xs) w u zero e = inl e
  at_end (x ∷ xs) w u (suc j) e = ⊎_elim inl (λ (t : (j ≡ length xs) × (w ≡ u)). inr (ap suc t.0, t.1)) (at_end xs w u j e)

  pub each_end : (P : ℕ → A → Type 0) (xs : List A) (w : A) → ((j : ℕ) (u : A) → get_elem? xs j ≡ some u → P j u) → P (length xs) w
      → (j : ℕ) (u : A) → get_elem? (xs ++ w ∷ []) j ≡ some u → P j u
  each_end P xs w others mine j u e =
      ⊎_elim (others j u) (λ (x : (j ≡ length xs) × (w ≡ u)). subst (λ (y : ℕ × A). P y.0 y.1) (λ i. (sym x.0 i, x.1 i)) mine) (at_end xs w u j e)

  -- lists of one length with the same items are one list
  pub same_items : (xs ys : List A) → length xs ≡ length ys → ((k : ℕ) (x : A) → get_elem? xs k ≡ some x → get_elem? ys k ≡ some x) → xs ≡ ys
  same_items [] [] l all = refl
  same_items [] (y ∷ ys) l all = absurd (omega arith)
  same_items (x ∷ xs) [] l all = absurd (omega arith)
  same_items (x ∷ xs) (y ∷ ys) l all = λ i. sym (some-injective y x (all zero x refl)) i ∷ same_items xs ys (omega arith) (λ k z e. all (suc k) z e) i
