-- A core that goes on with a call that was left over, or with one that does not take its lock.
use Rattle.std.proofs.Common.{ℕ, ◌≡◌, Option, Some, None, ◌++◌}
use Rattle.tau_core.specs.State.{Plain}
use Rattle.tau_core.specs.Stands.{Stood}
use Rattle.tau_core.specs.LeftOvers.{ResumeSteps}
use Rattle.tau_core.specs.Retries.{RetrySteps}
use Rattle.tau_core.specs.declared.event.Outcome.{Outcome}
use Rattle.tau_core.specs.declared.event.Outcome.TheVariants as outcome

pub resumed_load : (p p' : Plain) (g : Stood p) (o : Option ℕ) → ResumeSteps p p' g.0 g.1 o → p'.load ≡ p.load
resumed_load p p' g (Some w) q = q.load
resumed_load p p' g None q = q.0.load

pub resumed_stood : (p p' : Plain) (g : Stood p) (o : Option ℕ) → ResumeSteps p p' g.0 g.1 o → Stood p'
resumed_stood p p' g (Some w) q = (g.0 ++ q.joined, q.hidden, q.stands)
resumed_stood p p' g None q = (g.0, q.0.hidden, q.0.stands)

module _ (p p' : Plain) (g : Stood p) (w : ℕ) where
  pub retried_load : (o : Outcome) → RetrySteps p p' g.0 g.1 w o → p'.load ≡ p.load
  retried_load outcome.Went q = q.load
  retried_load (outcome.Granted v) q = absurd q
  retried_load (outcome.Busy u) q = absurd q
  retried_load (outcome.Placed at) q = absurd q
  retried_load (outcome.Gathered upto) q = absurd q
  retried_load (outcome.Acked number lv) q = absurd q
  retried_load outcome.NothingCovered q = absurd q
  retried_load (outcome.NotNow phase) q = q.0.load
  retried_load outcome.NoMemory q = q.0.load

  pub retried_stood : (o : Outcome) → RetrySteps p p' g.0 g.1 w o → Stood p'
  retried_stood outcome.Went q = (g.0 ++ q.joined, q.hidden, q.stands)
  retried_stood (outcome.Granted v) q = absurd q
  retried_stood (outcome.Busy u) q = absurd q
  retried_stood (outcome.Placed at) q = absurd q
  retried_stood (outcome.Gathered upto) q = absurd q
  retried_stood (outcome.Acked number lv) q = absurd q
  retried_stood outcome.NothingCovered q = absurd q
  retried_stood (outcome.NotNow phase) q = (g.0, q.0.hidden, q.0.stands)
  retried_stood outcome.NoMemory q = (g.0, q.0.hidden, q.0.stands)
