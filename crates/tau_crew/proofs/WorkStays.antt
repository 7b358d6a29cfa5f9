-- Workers while other actors leave the head.
use Rattle.std.proofs.Common.{ℕ, arith, refl, ap, ◌∙◌}
use Rattle.tau_core.specs.declared.state.Load.{Load}
use Rattle.tau_rule.specs.Role.{role_in}
use Rattle.tau_rule.specs.Rule.{clerk_role, manager_role}
use Rattle.tau_rule.specs.Steps.{Sat}
use Rattle.tau_desk.specs.Ends.{IsClerkSplit, IsManagerSplit}
use Rattle.tau_desk.specs.Seats.{PlainClerkSeat, PlainHead, PlainManagerSeat}
use Rattle.tau_desk.proofs.SplittingOff.{role_stays}
use Rattle.tau_crew.specs.Dealing.{KeepsWorkers}

pub workers_none : (l : Load) (h : PlainHead) → KeepsWorkers l h h
workers_none l h = record { works = refl; roles = λ w low. refl }

pub workers_then : (l : Load) (a b c : PlainHead) → KeepsWorkers l a b → KeepsWorkers l b c → KeepsWorkers l a c
workers_then l a b c p q = record { works = q.works ∙ p.works; roles = λ w low. q.roles w low ∙ p.roles w low }

pub workers_stay : (l : Load) (j : ℕ) (h h' : PlainHead) (s : PlainManagerSeat) → IsManagerSplit l j h h' s → KeepsWorkers l h h'
workers_stay l j h h' s q = record {
  works = ap (λ (x : PlainHead). x.workers) q.left;
  roles = λ w low. ap (λ (m : Sat). role_in w m.0.roles) q.split.head_is ∙ role_stays (manager_role l j) w h.me.0.roles (λ e. omega (arith, e, low));
}

pub workers_stay_clerk : (l : Load) (h h' : PlainHead) (s : PlainClerkSeat) → IsClerkSplit l h h' s → KeepsWorkers l h h'
workers_stay_clerk l h h' s q = record {
  works = ap (λ (x : PlainHead). x.workers) q.left;
  roles = λ w low. ap (λ (m : Sat). role_in w m.0.roles) q.split.head_is ∙ role_stays (clerk_role l) w h.me.0.roles (λ e. omega (arith, e, low));
}
