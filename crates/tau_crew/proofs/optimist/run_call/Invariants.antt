use Rattle.tau_crew.specs.Working.{WorksOn}
use Rattle.tau_crew.proofs.optimist.run_call.Given as goal

abbrev pub invariant-loop : goal.invariant-loop
invariant-loop g l = WorksOn l.initial.seat l.seat
