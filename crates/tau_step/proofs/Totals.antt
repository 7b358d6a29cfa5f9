-- What is left of all workers falls where one of them acts.
use Rattle.std.proofs.Common.{ℕ, zero, suc, ◌<◌, ◌≡◌, true, inl, inr, refl, sym, ap, subst, arith}
use Rattle.std.proofs.lemmas.Bool.{cases_eq}
use Rattle.tau_machine.specs.State.{Setting, Core}
use Rattle.tau_run.specs.Turns.{Progress}
use Rattle.tau_step.specs.TurnParts.{Worked, has_work}
use Rattle.tau_step.specs.Remains.{sum_below, worker_left}
use Rattle.tau_step.proofs.Falling.{HasTries, own_falls}
use Rattle.tau_step.proofs.Idling.{if_then}
use Rattle.tau_step.proofs.Others.{worked_others}

pub sum_same : (f g : ℕ → ℕ) (n : ℕ) → ((i : ℕ) → i < n → f i ≡ g i) → sum_below f n ≡ sum_below g n
sum_same f g zero h = refl
sum_same f g (suc n) h = let rest = sum_same f g n (λ i lt. h i (omega (arith, lt))) in let here = h n (omega arith) in omega (arith, rest, here)

pub sum_less : (f g : ℕ → ℕ) (w n : ℕ) → w < n → f w < g w → ((i : ℕ) → (i ≡ w → ⊥) → f i ≡ g i) → sum_below f n < sum_below g n
sum_less f g w zero lt less h = absurd (omega arith)
sum_less f g w (suc n) lt less h = elim (cases_eq w n) [
  | inl e ↦
      (let rest = sum_same f g n (λ i below. h i (λ same. absurd (omega (arith, same, e, below)))) in
      let here : f n < g n = subst (λ (k : ℕ). f k < g k) e less in
      omega (arith, rest, here))
  | inr ne ↦
      (let rest = sum_less f g w n (omega (arith, lt, ne)) less h in
      let here = h n (λ same. ne (sym same)) in
      omega (arith, rest, here))
]

module _ (set : Setting) (m n : ℕ) where
  abbrev all_left : Core → ℕ
  all_left s = sum_below (λ w. worker_left set.procs (s.workers w)) m

  -- a worker that has something to do does it
  pub worked_total : (w : ℕ) → w < m → (P P' : Progress) → has_work set m n P.state w ≡ true → HasTries (P.state.workers w) → Worked set m n w P P' → all_left P'.state < all_left P.state
  worked_total w lt P P' works has h =
      let (e, own, q, names, held, lowest) = if_then (has_work set m n P.state w) _ _ works h in
      sum_less (λ u. worker_left set.procs (P'.state.workers u)) (λ u. worker_left set.procs (P.state.workers u)) w m lt (own_falls set w e own P.state P'.state q.new has q.leads)
      (λ u ne. ap (worker_left set.procs) (worked_others set m n P P' w u ne true h))
