use Rattle.tau_crew.specs.EndSettles.{IsSameHead}
use Rattle.tau_crew.proofs.ending_settle.settle.Given as goal

abbrev pub invariant-loop : goal.invariant-loop
invariant-loop g l = IsSameHead l.initial.head l.head
