use Rattle.std.proofs.Common.{◌<◌, List, sym, subst}
use Rattle.tau_model.specs.History.{Act}
use Rattle.tau_machine.specs.Hands.{Txn}
use Rattle.tau_core.specs.declared.event.Event.TheVariants as event
use Rattle.tau_core.specs.State.{Plain, plain}
use Rattle.tau_core.specs.View.{Hidden}
use Rattle.tau_core.specs.Stands.{Stands}
use Rattle.tau_core.specs.Steps.{PersistSteps}
use Rattle.tau_core.specs.Answered.{reached_by}
use Rattle.tau_core.proofs.Whole.{stood_at}
use Rattle.tau_core.proofs.Steps.{persist_steps}
use Rattle.tau_core.proofs.top.Core.persist.Goals as goal

pub invariant_of-self : goal.invariant_of-self
invariant_of-self c =
    let there : c.args.stream < c.self.inside.state.load.streams = subst (λ (p : Plain). c.args.stream < p.load.streams) (sym c.self.view_is) c.requires.there in
    stood_at (plain c.self.inside.state) (plain c.persist.new.state) (event.Persist c.args.stream c.args.upto) (reached_by c.persist.result) c.self.invariant
    (λ K h g. persist_steps (plain c.self.inside.state) (plain c.persist.new.state) K h g c.args.stream c.args.upto (reached_by c.persist.result) there c.persist.ensures)

pub returns : goal.returns
returns c =
    let there : c.args.stream < c.self.inside.state.load.streams = subst (λ (p : Plain). c.args.stream < p.load.streams) (sym c.self.view_is) c.requires.there in
    subst (λ (p : Plain). (K : List (Act Txn)) (h : Hidden) → Stands p K h → PersistSteps p (plain c.persist.new.state) K h c.args.stream c.args.upto (reached_by c.persist.result)) c.self.view_is
    (λ K h g. persist_steps (plain c.self.inside.state) (plain c.persist.new.state) K h g c.args.stream c.args.upto (reached_by c.persist.result) there c.persist.ensures)
