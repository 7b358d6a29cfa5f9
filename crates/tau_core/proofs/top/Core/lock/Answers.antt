use Rattle.std.proofs.Common.{◌<◌, List, sym, subst}
use Rattle.tau_model.specs.History.{Act}
use Rattle.tau_machine.specs.Hands.{Txn}
use Rattle.tau_core.specs.declared.event.Event.TheVariants as event
use Rattle.tau_core.specs.State.{Plain, plain}
use Rattle.tau_core.specs.View.{Hidden}
use Rattle.tau_core.specs.Stands.{Stands}
use Rattle.tau_core.specs.Steps.{LockSteps}
use Rattle.tau_core.specs.Answered.{granted_by}
use Rattle.tau_core.proofs.Whole.{stood_at}
use Rattle.tau_core.proofs.FirstSteps.{lock_steps}
use Rattle.tau_core.proofs.top.Core.lock.Goals as goal

pub invariant_of-self : goal.invariant_of-self
invariant_of-self c =
    let there : c.args.worker < c.self.inside.state.load.workers = subst (λ (p : Plain). c.args.worker < p.load.workers) (sym c.self.view_is) c.requires.there in
    stood_at (plain c.self.inside.state) (plain c.lock.new.state) (event.Lock c.args.worker) (granted_by c.lock.ensures.value c.lock.result) c.self.invariant
    (λ K h g. lock_steps (plain c.self.inside.state) (plain c.lock.new.state) K h g c.args.worker there (granted_by c.lock.ensures.value c.lock.result) c.lock.ensures.is)

pub returns : goal.returns
returns c =
    let there : c.args.worker < c.self.inside.state.load.workers = subst (λ (p : Plain). c.args.worker < p.load.workers) (sym c.self.view_is) c.requires.there in
    record {
      value = c.lock.ensures.value;
      is = subst (λ (p : Plain). (K : List (Act Txn)) (h : Hidden) → Stands p K h → LockSteps p (plain c.lock.new.state) K h c.args.worker (granted_by c.lock.ensures.value c.lock.result)) c.self.view_is
          (λ K h g. lock_steps (plain c.self.inside.state) (plain c.lock.new.state) K h g c.args.worker there (granted_by c.lock.ensures.value c.lock.result) c.lock.ensures.is);
    }
