-- Steps one after another.
use Rattle.std.proofs.Common.{ℕ, zero, suc, ◌<◌, ◌≡◌, inl, inr, Bool, true, false, List, [], ◌∷◌, ◌++◌, refl, sym, ap, subst, ◌∙◌, append_assoc, arith}
use Rattle.std.proofs.lemmas.Bool.{cases_eq, cases_lt}
use Rattle.tau_machine.specs.State.{Setting}
use Rattle.tau_run.specs.Run.{below}
use Rattle.tau_run.specs.Turns.{Progress}
use Rattle.tau_step.specs.TurnParts.{OneByOne}

module _ (set : Setting) (m n : ℕ) {A : Type 0} (step : Bool → A → Progress → Progress → Type 0) where
  -- one more after them
  pub one_more : (xs : List A) (x : A) (P Q P' : Progress) → OneByOne set m n step true xs P Q → step true x Q P' → OneByOne set m n step true (xs ++ x ∷ []) P P'
  one_more [] x P Q P' e s = (P', subst (λ (q : Progress). step true x q P') e s, refl)
  one_more (y ∷ ys) x P Q P' (q, first, rest) s = (q, first, one_more ys x q Q P' rest s)

  -- the next of them is left undone in part
  pub one_cut : (xs : List A) (x : A) (ys : List A) (P Q P' : Progress) → OneByOne set m n step true xs P Q → step false x Q P' → OneByOne set m n step false (xs ++ x ∷ ys) P P'
  one_cut [] x ys P Q P' e s = inl (subst (λ (q : Progress). step false x q P') e s)
  one_cut (y ∷ zs) x ys P Q P' (q, first, rest) s = inr (q, first, one_cut zs x ys q Q P' rest s)

-- the numbers below one are those below another, it, and others
pub below_split : (i m : ℕ) → i < m → (others : List ℕ) × (below m ≡ below i ++ i ∷ others)
below_split i zero lt = absurd (omega arith)
below_split i (suc m) lt = elim (cases_eq i m) [
  | inl e ↦ ([], ap (λ (k : ℕ). below k ++ k ∷ []) (sym e))
  | inr ne ↦ (let more = below_split i m (under i m lt ne) in
      (more.0 ++ m ∷ [], ap (λ (l : List ℕ). l ++ m ∷ []) more.1 ∙ append_assoc (below i) (i ∷ more.0) (m ∷ [])))
]
  where
    under : (i m : ℕ) → i < suc m → (i ≡ m → ⊥) → i < m
    under i m lt ne = elim (cases_lt i m) [ inl x ↦ x | inr y ↦ absurd (ne (omega (arith, lt, y))) ]
