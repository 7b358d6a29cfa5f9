use Rattle.std.proofs.Common.{sym, subst}
use Rattle.tau_core.specs.declared.event.Outcome.{Outcome}
use Rattle.tau_core.specs.Steps.{LockSteps}
use Rattle.tau_core.proofs.Told.{lock_told}
use Rattle.tau_core.proofs.top.Core.lock_with_value.Goals as goal

pub returns : goal.returns
returns c = λ K h g. subst (λ (o : Outcome). LockSteps c.args.self.now c.lock-acted.new.self K h c.args.worker o) (sym c.outcome_by.ensures)
    (lock_told c.args.self.now c.lock-acted.new.self K h c.args.worker c.lock-acted.ensures.value c.value_wanted-value.result c.lock-acted.result (c.value_wanted-value.ensures K h g) (c.lock-acted.ensures.is K h g))
