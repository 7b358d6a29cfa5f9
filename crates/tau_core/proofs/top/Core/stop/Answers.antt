use Rattle.std.proofs.Common.{◌<◌, List, sym, subst}
use Rattle.tau_model.specs.History.{Act}
use Rattle.tau_machine.specs.Hands.{Txn}
use Rattle.tau_core.specs.declared.event.Event.TheVariants as event
use Rattle.tau_core.specs.State.{Plain, plain}
use Rattle.tau_core.specs.View.{Hidden}
use Rattle.tau_core.specs.Stands.{Stands}
use Rattle.tau_core.specs.Steps.{StopSteps}
use Rattle.tau_core.specs.Answered.{reached_by}
use Rattle.tau_core.proofs.Whole.{stood_at}
use Rattle.tau_core.proofs.Steps.{stop_steps}
use Rattle.tau_core.proofs.top.Core.stop.Goals as goal

pub invariant_of-self : goal.invariant_of-self
invariant_of-self c =
    let there : c.args.stream < c.self.inside.state.load.streams = subst (λ (p : Plain). c.args.stream < p.load.streams) (sym c.self.view_is) c.requires.there in
    stood_at (plain c.self.inside.state) (plain c.stop.new.state) (event.Stop c.args.stream c.args.at) (reached_by c.stop.result) c.self.invariant
    (λ K h g. stop_steps (plain c.self.inside.state) (plain c.stop.new.state) K h g c.args.stream c.args.at (reached_by c.stop.result) there c.stop.ensures)

pub returns : goal.returns
returns c =
    let there : c.args.stream < c.self.inside.state.load.streams = subst (λ (p : Plain). c.args.stream < p.load.streams) (sym c.self.view_is) c.requires.there in
    subst (λ (p : Plain). (K : List (Act Txn)) (h : Hidden) → Stands p K h → StopSteps p (plain c.stop.new.state) K h c.args.stream c.args.at (reached_by c.stop.result)) c.self.view_is
    (λ K h g. stop_steps (plain c.self.inside.state) (plain c.stop.new.state) K h g c.args.stream c.args.at (reached_by c.stop.result) there c.stop.ensures)
