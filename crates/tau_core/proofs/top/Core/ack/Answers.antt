use Rattle.std.proofs.Common.{List, subst}
use Rattle.tau_model.specs.History.{Act}
use Rattle.tau_machine.specs.Hands.{Txn}
use Rattle.tau_core.specs.declared.event.Event.TheVariants as event
use Rattle.tau_core.specs.State.{Plain, plain}
use Rattle.tau_core.specs.View.{Hidden}
use Rattle.tau_core.specs.Stands.{Stands}
use Rattle.tau_core.specs.Steps.{AckSteps}
use Rattle.tau_core.specs.Answered.{acked_by}
use Rattle.tau_core.proofs.Whole.{stood_at}
use Rattle.tau_core.proofs.Steps.{ack_steps}
use Rattle.tau_core.proofs.top.Core.ack.Goals as goal

pub invariant_of-self : goal.invariant_of-self
invariant_of-self c =
    stood_at (plain c.self.inside.state) (plain c.ack.new.state) (event.Ack c.args.worker) (acked_by c.ack.result c.ack.new.call) c.self.invariant
    (λ K h g. ack_steps (plain c.self.inside.state) (plain c.ack.new.state) K h g c.args.worker (acked_by c.ack.result c.ack.new.call) c.ack.ensures)

pub returns : goal.returns
returns c =
    subst (λ (p : Plain). (K : List (Act Txn)) (h : Hidden) → Stands p K h → AckSteps p (plain c.ack.new.state) K h c.args.worker (acked_by c.ack.result c.ack.new.call)) c.self.view_is
    (λ K h g. ack_steps (plain c.self.inside.state) (plain c.ack.new.state) K h g c.args.worker (acked_by c.ack.result c.ack.new.call) c.ack.ensures)
