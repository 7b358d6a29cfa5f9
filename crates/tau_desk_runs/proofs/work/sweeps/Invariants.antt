use Rattle.tau_desk_runs.specs.Same.{IsSameManager}
use Rattle.tau_desk_runs.proofs.work.sweeps.Given as goal

abbrev pub invariant-loop-worker : goal.invariant-loop-worker
invariant-loop-worker g l = IsSameManager l.fn.seat l.seat
