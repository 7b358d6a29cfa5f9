use Rattle.std.proofs.Common.{true}
use Rattle.tau_step.specs.Optimists.{AreFit, all_turns_left, peeks_of}
use Rattle.tau_step.specs.RunEffects.{Moves}
use Rattle.tau_step.proofs.Rounds.{rounds_so}
use Rattle.tau_step.proofs.run.Run.rounds.Given as goal

abbrev pub invariant-rounds : goal.invariant-rounds
invariant-rounds g l = record {
  moves : Moves (rounds_so l.style (peeks_of l.fn.peekers.items) (peeks_of l.peekers.items)) true l.fn.self l.self l.fn.writers.items l.writers.items g.K.Sink.tells (g.K.Sink.held l.fn.sink) (g.K.Sink.held l.sink) (g.K.Sink.faults l.fn.sink) (g.K.Sink.faults l.sink);
  fit : AreFit l.style l.load l.self.core l.peekers.items;
}

abbrev pub decreases-rounds : goal.decreases-rounds
decreases-rounds g l = all_turns_left l.self.core (peeks_of l.peekers.items)
