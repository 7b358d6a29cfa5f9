-- Rounds, a worker that acts alone, and calls left over, step by step.
use Rattle.std.proofs.Common.{ℕ, suc, ◌<◌, ◌≡◌, Bool, true, false, inl, inr, List, [], ◌∷◌, ◌++◌, refl, sym, ap, subst, ◌∙◌}
use Rattle.std.specs.Prelude.{◌||◌}
use Rattle.std.specs.List.{list_any}
use Rattle.std.proofs.lemmas.Bool.{cases_Bool}
use Rattle.tau_machine.specs.State.{Setting, Core}
use Rattle.tau_run.specs.Run.{below}
use Rattle.tau_run.specs.Turns.{Progress, is_raised}
use Rattle.tau_step.specs.TurnParts.{Worked, has_work}
use Rattle.tau_step.specs.Along.{Quiet}
use Rattle.tau_step.proofs.Growing.{grows_none, grows_on, same_none, same_on}
use Rattle.tau_step.proofs.OneByOne.{below_split}
use Rattle.tau_step.proofs.Others.{worked_streams, worked_others, raised_same, work_same}
use Rattle.tau_step.proofs.Turning.{worked_grows, worked_same}
use Rattle.tau_base.proofs.Logic.{or_first, or_alone}
use Rattle.tau_step.proofs.Idling.{if_else}

pub quiet_none : (s : Core) → Quiet s s
quiet_none s = record { grown = grows_none s; same = λ i. same_none i s }

pub quiet_on : (s t u : Core) → Quiet s t → Quiet t u → Quiet s u
quiet_on s t u a b = record { grown = grows_on s t u a.grown b.grown; same = λ i. same_on i s t u (a.same i) (b.same i) }

pub quiet_same : (P P' : Progress) → P' ≡ P → Quiet P.state P'.state
quiet_same P P' e = subst (λ (X : Progress). Quiet P.state X.state) (sym e) (quiet_none P.state)

any_append : {A : Type 0} (f : A → Bool) (xs ys : List A) → list_any f (xs ++ ys) ≡ (list_any f xs || list_any f ys)
any_append f [] ys = refl
any_append f (x ∷ xs) ys = elim (cases_Bool (f x)) [
  | inl yes' ↦ rw yes' refl
  | inr no' ↦ rw no' (any_append f xs ys)
]

-- of the first numbers and the next one
pub any_more : (f : ℕ → Bool) (i : ℕ) → list_any f (below (suc i)) ≡ (list_any f (below i) || f i)
any_more f i = any_append f (below i) (i ∷ []) ∙ ap (λ (b : Bool). list_any f (below i) || b) (or_alone (f i))

pub any_below : (f : ℕ → Bool) (i m : ℕ) → i < m → list_any f (below m) ≡ false → list_any f (below i) ≡ false
any_below f i m lt none =
    let split = below_split i m lt in
    or_first (list_any f (below i)) (list_any f (i ∷ split.0)) (sym (any_append f (below i) (i ∷ split.0)) ∙ sym (ap (list_any f) split.1) ∙ none)

-- none of the first numbers is
pub none_below : (f : ℕ → Bool) (m : ℕ) → list_any f (below m) ≡ false → (i : ℕ) → i < m → f i ≡ false
none_below f m none i lt =
    let split = below_split i m lt in
    let back = second (list_any f (below i)) (list_any f (i ∷ split.0)) (sym (any_append f (below i) (i ∷ split.0)) ∙ sym (ap (list_any f) split.1) ∙ none) in
    or_first (f i) (list_any f split.0) back
  where
    second : (a b : Bool) → (a || b) ≡ false → b ≡ false
    second false b e = e
    second true b e = absurd (let bad : true ≡ false = e in cc)

module _ (set : Setting) (m n : ℕ) where
  -- a worker that has nothing to do
  pub worked_still : (w : ℕ) (P P' : Progress) → has_work set m n P.state w ≡ false → Worked set m n w P P' → P' ≡ P
  worked_still w P P' none h = if_else (has_work set m n P.state w) _ _ none h

  pub worked_quiet : (w : ℕ) (P P' : Progress) → Worked set m n w P P' → Quiet P.state P'.state
  worked_quiet w P P' h = record { grown = worked_grows set m n P P' w true h; same = λ i. worked_same set m n P P' i w true h }

  worked_raised : (w : ℕ) (P P' : Progress) → Worked set m n w P P' → is_raised set m n P'.state ≡ is_raised set m n P.state
  worked_raised w P P' h = raised_same set m n P.state P'.state (worked_streams set m n P P' w true h)

  pub worked_later : (w u : ℕ) → (u ≡ w → ⊥) → (P P' : Progress) → Worked set m n w P P' → has_work set m n P'.state u ≡ has_work set m n P.state u
  worked_later w u ne P P' h = work_same set m n P.state P'.state u (worked_others set m n P P' w u ne true h) (worked_raised w P P' h)
