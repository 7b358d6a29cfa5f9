-- Nothing is ready any more.
use Rattle.std.proofs.Common.{ap, is_some, refl}
use Rattle.tau_follow.proofs.Longer.{begins_then}
use Rattle.tau_follow.proofs.applier.Applier.follow_known.Goals as goal

pub steps-preserved : goal.steps-preserved
steps-preserved c = (
  λ s d k. (let w = c.steps.invariant.0 s d k in let known = c.in-Ok-Some.ensures.known s w.0 w.1 in (c.in-Ok-Some.ensures.applied s w.0 w.1, rw c.in-Ok-Some.field-0-is at known)),
  begins_then _ _ _ c.steps.invariant.1 c.in-Ok-Some.ensures.order,
)

pub returns-in-Ok-None-clause-ok : goal.returns-in-Ok-None-clause-ok
returns-in-Ok-None-clause-ok c = λ s d k. (let w = c.steps.invariant.0 s d k in c.in-Ok-None.ensures.through s w.0 w.1 (ap is_some c.in-Ok-None.field-0-is))

pub returns-in-Ok-None-clause-applied : goal.returns-in-Ok-None-clause-applied
returns-in-Ok-None-clause-applied c = λ s d k. (let w = c.steps.invariant.0 s d k in c.in-Ok-None.ensures.applied s w.0 w.1)

pub returns-in-Err-clause-applied : goal.returns-in-Err-clause-applied
returns-in-Err-clause-applied c = λ s d k. (let w = c.steps.invariant.0 s d k in c.in-Err.ensures.applied s w.0 w.1)

pub returns-in-Ok-None-clause-order : goal.returns-in-Ok-None-clause-order
returns-in-Ok-None-clause-order c = begins_then _ _ _ c.steps.invariant.1 c.in-Ok-None.ensures.order

pub returns-in-Err-clause-order : goal.returns-in-Err-clause-order
returns-in-Err-clause-order c = begins_then _ _ _ c.steps.invariant.1 c.in-Err.ensures.order

pub returns-in-Ok-None-clause-known : goal.returns-in-Ok-None-clause-known
returns-in-Ok-None-clause-known c = λ s d k. (let w = c.steps.invariant.0 s d k in c.in-Ok-None.ensures.still s w.0 w.1 (ap is_some c.in-Ok-None.field-0-is))
