use Rattle.std.proofs.Common.{true}
use Rattle.tau_step.specs.RunEffects.{Works, calls_over, rests_in}
use Rattle.tau_step.proofs.LeftOvers.{left_so}
use Rattle.tau_step.proofs.run.Run.left_over.Given as goal

abbrev pub invariant-calls : goal.invariant-calls
invariant-calls l = record {
  works : Works left_so true l.fn.self l.self;
  rests : rests_in l.self.core;
}

abbrev pub decreases-calls : goal.decreases-calls
decreases-calls l = calls_over l.self.core
