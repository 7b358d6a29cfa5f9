use Rattle.std.proofs.Common.{Bool, subst}
use Rattle.tau_core.specs.Steps.{AckSteps}
use Rattle.tau_core.specs.Answered.{acked_by}
use Rattle.tau_core.proofs.top.Core.ack_with_call.Goals as goal

pub returns-then-ack : goal.returns-then-ack
returns-then-ack c = λ K h g. subst (λ (b : Bool). AckSteps c.args.self.now c.ack.new.self K h c.args.worker (acked_by b c.ack.new.call)) c.if-ack.true (c.ack.ensures K h g)

pub returns : goal.returns
returns c = λ K h g. subst (λ (b : Bool). AckSteps c.args.self.now c.ack.new.self K h c.args.worker (acked_by b c.ack.new.call)) c.if-ack.false (c.ack.ensures K h g)
