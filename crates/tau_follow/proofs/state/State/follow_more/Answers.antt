-- The new records are those of calls, and anchors.
use Rattle.std.proofs.Common.{subst, List}
use Rattle.tau_record.specs.declared.entry.Placed.{Placed}
use Rattle.tau_follow.specs.Feeding.{AreCallsAt}
use Rattle.tau_follow.proofs.state.State.follow_more.Goals as goal

pub returns-in-Ok-clause-ok : goal.returns-in-Ok-clause-ok
returns-in-Ok-clause-ok c = λ f n fed s p h on. c.in-Ok.ensures.ok f n fed s p c.args.before h on (subst (λ (l : List (List Placed)). AreCallsAt c.args.stream c.args.before l) c.as_slice.ensures.value (c.are_calls_at.ensures c.if-are_calls_at.true))

pub returns-in-Err-clause-stands : goal.returns-in-Err-clause-stands
returns-in-Err-clause-stands c = λ f n fed s p h on. c.in-Err.ensures.stands f n fed s p c.args.before h on (subst (λ (l : List (List Placed)). AreCallsAt c.args.stream c.args.before l) c.as_slice.ensures.value (c.are_calls_at.ensures c.if-are_calls_at.true))
