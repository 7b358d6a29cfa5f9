use Rattle.std.proofs.Common.{true}
use Rattle.tau_step.specs.Optimists.{AreFit, peeks_of}
use Rattle.tau_step.specs.RunEffects.{Moves}
use Rattle.tau_step.proofs.Words.{words_left}
use Rattle.tau_step.proofs.run.Run.words.Given as goal

abbrev pub invariant-loop-turn : goal.invariant-loop-turn
invariant-loop-turn g l = record {
  moves : Moves (words_left l.style (peeks_of l.fn.peekers.items) (peeks_of l.peekers.items) l.turns l.turn-index) true l.fn.self l.self l.fn.writers.items l.writers.items g.K.Sink.tells (g.K.Sink.held l.fn.sink) (g.K.Sink.held l.sink) (g.K.Sink.faults l.fn.sink) (g.K.Sink.faults l.sink);
  fit : AreFit l.style l.load l.self.core l.peekers.items;
}
