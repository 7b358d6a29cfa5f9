use Rattle.tau_desk_runs.specs.Same.{IsSameClerk}
use Rattle.tau_desk_runs.proofs.work.tells.Given as goal

abbrev pub invariant-loop : goal.invariant-loop
invariant-loop g l = IsSameClerk l.fn.seat l.seat
