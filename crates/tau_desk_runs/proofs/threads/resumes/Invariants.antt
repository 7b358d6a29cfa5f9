use Rattle.tau_desk_runs.specs.Same.{IsSameHead}
use Rattle.tau_desk_runs.proofs.threads.resumes.Given as goal

abbrev pub invariant-loop : goal.invariant-loop
invariant-loop g l = IsSameHead l.fn.head l.head
