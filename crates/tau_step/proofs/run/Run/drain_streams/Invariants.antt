use Rattle.std.proofs.Common.{true}
use Rattle.tau_step.specs.RunEffects.{Manages}
use Rattle.tau_step.specs.Rounding.{idled_below}
use Rattle.tau_step.proofs.run.Run.drain_streams.Given as goal

abbrev pub invariant-loop-stream : goal.invariant-loop-stream
invariant-loop-stream g l = record {
  manages : Manages (idled_below l.stream) true l.fn.self l.self l.fn.writers.items l.writers.items;
}
