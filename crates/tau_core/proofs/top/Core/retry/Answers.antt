use Rattle.std.proofs.Common.{◌<◌, List, sym, subst}
use Rattle.tau_model.specs.History.{Act}
use Rattle.tau_machine.specs.Hands.{Txn}
use Rattle.tau_core.specs.State.{Plain, plain}
use Rattle.tau_core.specs.View.{Hidden}
use Rattle.tau_core.specs.Stands.{Stands}
use Rattle.tau_core.specs.Retries.{RetrySteps}
use Rattle.tau_core.proofs.Retries.{retry_steps, retry_stood}
use Rattle.tau_core.proofs.top.Core.retry.Goals as goal

pub invariant_of-self : goal.invariant_of-self
invariant_of-self c =
    let g = c.self.invariant in
    let there : c.args.worker < c.self.inside.state.load.workers = subst (λ (p : Plain). c.args.worker < p.load.workers) (sym c.self.view_is) c.requires.there in
    retry_stood (plain c.self.inside.state) (plain c.retry.new.state) g.0 g.1 c.args.worker c.retry.result (retry_steps (plain c.self.inside.state) (plain c.retry.new.state) g.0 g.1 g.2 c.args.worker there c.retry.result c.retry.ensures)

pub returns : goal.returns
returns c =
    let there : c.args.worker < c.self.inside.state.load.workers = subst (λ (p : Plain). c.args.worker < p.load.workers) (sym c.self.view_is) c.requires.there in
    subst (λ (p : Plain). (K : List (Act Txn)) (h : Hidden) → Stands p K h → RetrySteps p (plain c.retry.new.state) K h c.args.worker c.retry.result) c.self.view_is
    (λ K h g. retry_steps (plain c.self.inside.state) (plain c.retry.new.state) K h g c.args.worker there c.retry.result c.retry.ensures)
