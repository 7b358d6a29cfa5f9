use Rattle.tau_desk_runs.specs.Same.{IsSameManager}
use Rattle.tau_desk_runs.proofs.work.manages.Given as goal

abbrev pub invariant-loop : goal.invariant-loop
invariant-loop g l = IsSameManager l.fn.seat l.seat
