-- The call of just this record was executed.
use Rattle.std.proofs.Common.{rules, ◌≡◌, Some, subst}
use Rattle.tau_scan.specs.declared.log.Log.{Log}
use Rattle.tau_replay.specs.Result.{DoesJust}
use Rattle.tau_replay.proofs.task.Task.outcome.Goals as goal

pub of-requires : goal.of-requires
of-requires c =
    let mine : c.self.inside.job ≡ Some c.args.job = search rules in
    let is : c.self.inside.log.value ≡ c.args.log.now = search rules in
    subst (λ (l : Log). DoesJust l c.args.job c.self.inside.executed.reads.items c.self.inside.executed.writes.items) is (c.self.invariant c.if-self.true c.args.job mine)
