use Rattle.std.proofs.Common.{true}
use Rattle.tau_step.specs.RunEffects.{Manages, SameWorkers}
use Rattle.tau_step.specs.Rounding.{managed_below}
use Rattle.tau_step.proofs.run.Run.managers_round.Given as goal

abbrev pub invariant-loop-stream : goal.invariant-loop-stream
invariant-loop-stream g l = record {
  manages : Manages (managed_below l.stream) true l.fn.self l.self l.fn.writers.items l.writers.items;
  same : SameWorkers l.fn.self.core l.self.core;
}
