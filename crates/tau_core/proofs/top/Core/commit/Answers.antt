use Rattle.std.proofs.Common.{◌<◌, List, sym, subst}
use Rattle.std.specs.Prelude.{◌%◌, slice_index}
use Rattle.tau_model.specs.History.{Act}
use Rattle.tau_machine.specs.Hands.{Txn}
use Rattle.tau_core.specs.declared.event.Event.TheVariants as event
use Rattle.tau_core.specs.State.{Plain, plain}
use Rattle.tau_core.specs.View.{Hidden}
use Rattle.tau_core.specs.Stands.{Stands}
use Rattle.tau_core.specs.Steps.{CommitSteps}
use Rattle.tau_core.specs.Answered.{placed_by}
use Rattle.tau_core.proofs.Whole.{stood_at}
use Rattle.tau_core.proofs.WorkerSteps.{commit_steps}
use Rattle.tau_core.proofs.top.Core.commit.Goals as goal

pub invariant_of-self : goal.invariant_of-self
invariant_of-self c =
    let there : c.args.worker < c.self.inside.state.load.workers = subst (λ (p : Plain). c.args.worker < p.load.workers) (sym c.self.view_is) c.requires.there in
    stood_at (plain c.self.inside.state) (plain c.commit.new.state) (event.Commit c.args.worker) (placed_by (slice_index c.self.inside.state.ends (c.args.worker % c.self.inside.state.load.streams)) c.commit.result) c.self.invariant
    (λ K h g. commit_steps (plain c.self.inside.state) (plain c.commit.new.state) K h g c.args.worker there (placed_by (slice_index c.self.inside.state.ends (c.args.worker % c.self.inside.state.load.streams)) c.commit.result) c.commit.ensures)

pub returns : goal.returns
returns c =
    let there : c.args.worker < c.self.inside.state.load.workers = subst (λ (p : Plain). c.args.worker < p.load.workers) (sym c.self.view_is) c.requires.there in
    subst (λ (p : Plain). (K : List (Act Txn)) (h : Hidden) → Stands p K h → CommitSteps p (plain c.commit.new.state) K h c.args.worker (placed_by (slice_index p.ends (c.args.worker % p.load.streams)) c.commit.result)) c.self.view_is
    (λ K h g. commit_steps (plain c.self.inside.state) (plain c.commit.new.state) K h g c.args.worker there (placed_by (slice_index c.self.inside.state.ends (c.args.worker % c.self.inside.state.load.streams)) c.commit.result) c.commit.ensures)
