use Rattle.std.proofs.Common.{List}
use Rattle.tau_model.specs.History.{Act}
use Rattle.tau_machine.specs.Hands.{Txn}
use Rattle.tau_core.specs.State.{Plain, plain}
use Rattle.tau_core.specs.View.{Hidden}
use Rattle.tau_core.specs.Stands.{Stands}
use Rattle.tau_core.specs.Steps.{HandsOut}
use Rattle.tau_core.proofs.Bodies.{hands_out}
use Rattle.std.proofs.Common.{subst}
use Rattle.tau_core.proofs.top.Core.swap_body.Goals as goal

pub invariant_of-self : goal.invariant_of-self
invariant_of-self c =
    let g = c.self.invariant in
    let q = hands_out (plain c.self.inside.state) (plain c.swap_body.new.state) g.0 g.1 g.2 c.args.stream c.swap_body.new.bytes.items c.swap_body.ensures in
    (g.0, q.hidden, q.stands)

pub returns : goal.returns
returns c = subst (λ (p : Plain). (K : List (Act Txn)) (h : Hidden) → Stands p K h → HandsOut p (plain c.swap_body.new.state) K h c.args.stream c.swap_body.new.bytes.items) c.self.view_is
    (λ K h g. hands_out (plain c.self.inside.state) (plain c.swap_body.new.state) K h g c.args.stream c.swap_body.new.bytes.items c.swap_body.ensures)
