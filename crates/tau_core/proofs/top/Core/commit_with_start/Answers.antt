use Rattle.std.proofs.Common.{ℕ, sym, subst}
use Rattle.tau_core.specs.declared.event.Outcome.{Outcome}
use Rattle.tau_core.specs.Steps.{CommitSteps}
use Rattle.tau_core.specs.Answered.{placed_by}
use Rattle.tau_core.proofs.top.Core.commit_with_start.Goals as goal

pub returns : goal.returns
returns c = λ K h g. subst (λ (o : Outcome). CommitSteps c.args.self.now c.commit-acted.new.self K h c.args.worker o) (sym c.outcome_by.ensures)
    (subst (λ (n : ℕ). CommitSteps c.args.self.now c.commit-acted.new.self K h c.args.worker (placed_by n c.commit-acted.result)) (sym c.start_next-start.ensures) (c.commit-acted.ensures K h g))
