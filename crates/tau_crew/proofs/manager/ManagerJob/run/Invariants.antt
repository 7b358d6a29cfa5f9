use Rattle.tau_crew.specs.Jobs.{IsSameManager, KeepsManager}
use Rattle.tau_crew.proofs.manager.ManagerJob.run.Given as goal

abbrev pub invariant-loop : goal.invariant-loop
invariant-loop g l = KeepsManager l.initial.self l.self × IsSameManager l.initial.self l.self
