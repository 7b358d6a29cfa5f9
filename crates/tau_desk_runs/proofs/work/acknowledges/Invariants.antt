use Rattle.tau_desk_runs.specs.Same.{IsSameClerk}
use Rattle.tau_desk_runs.proofs.work.acknowledges.Given as goal

abbrev pub invariant-loop-worker : goal.invariant-loop-worker
invariant-loop-worker g l = IsSameClerk l.fn.seat l.seat
