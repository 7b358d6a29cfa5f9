use Rattle.std.proofs.Common.{true}
use Rattle.tau_step.specs.RunEffects.{Manages, to_flush}
use Rattle.tau_step.proofs.Draining.{idles_so}
use Rattle.tau_step.proofs.run.Run.drain_stream.Given as goal

abbrev pub invariant-flushes : goal.invariant-flushes
invariant-flushes g l = record {
  manages : Manages (idles_so l.stream) true l.fn.self l.self l.fn.writers.items l.writers.items;
}

abbrev pub decreases-flushes : goal.decreases-flushes
decreases-flushes g l = to_flush l.self.core l.stream
