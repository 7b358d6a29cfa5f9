use Rattle.std.proofs.Common.{true}
use Rattle.tau_step.specs.Acting.{Settles}
use Rattle.tau_step.specs.RunEffects.{Works, total_left}
use Rattle.tau_step.proofs.LeftOvers.{alone_so}
use Rattle.tau_step.proofs.run.Run.alone.Given as goal

abbrev pub invariant-acts : goal.invariant-acts
invariant-acts l = record {
  works : Works (alone_so l.worker) true l.fn.self l.self;
  settles : Settles l.worker l.fn.self.core l.self.core;
}

abbrev pub decreases-acts : goal.decreases-acts
decreases-acts l = total_left l.self.core
