use Rattle.std.proofs.Common.{◌<◌, List, sym, subst}
use Rattle.tau_model.specs.History.{Act}
use Rattle.tau_machine.specs.Hands.{Txn}
use Rattle.tau_core.specs.declared.event.Event.TheVariants as event
use Rattle.tau_core.specs.State.{Plain, plain}
use Rattle.tau_core.specs.View.{Hidden}
use Rattle.tau_core.specs.Stands.{Stands}
use Rattle.tau_core.specs.Steps.{FreeSteps}
use Rattle.tau_core.specs.Answered.{went_by}
use Rattle.tau_core.proofs.Whole.{stood_at}
use Rattle.tau_core.proofs.WorkerSteps.{free_steps}
use Rattle.tau_core.proofs.top.Core.free.Goals as goal

pub invariant_of-self : goal.invariant_of-self
invariant_of-self c =
    let there : c.args.worker < c.self.inside.state.load.workers = subst (λ (p : Plain). c.args.worker < p.load.workers) (sym c.self.view_is) c.requires.there in
    stood_at (plain c.self.inside.state) (plain c.free.new.state) (event.Free c.args.worker) (went_by c.free.result) c.self.invariant
    (λ K h g. free_steps (plain c.self.inside.state) (plain c.free.new.state) K h g c.args.worker there (went_by c.free.result) c.free.ensures)

pub returns : goal.returns
returns c =
    let there : c.args.worker < c.self.inside.state.load.workers = subst (λ (p : Plain). c.args.worker < p.load.workers) (sym c.self.view_is) c.requires.there in
    subst (λ (p : Plain). (K : List (Act Txn)) (h : Hidden) → Stands p K h → FreeSteps p (plain c.free.new.state) K h c.args.worker (went_by c.free.result)) c.self.view_is
    (λ K h g. free_steps (plain c.self.inside.state) (plain c.free.new.state) K h g c.args.worker there (went_by c.free.result) c.free.ensures)
