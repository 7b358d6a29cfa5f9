use Rattle.std.proofs.Common.{refl, sym, subst, map, arith}
use Rattle.std.specs.Prelude.{is_ok}
use Rattle.std.proofs.lemmas.Result.{err_from_is_err_and}
use Rattle.tau_step.specs.Optimists.{peeks_of}
use Rattle.tau_step.specs.RunEffects.{Moves}
use Rattle.tau_step.proofs.EffectsInTurn.{moves_none}
use Rattle.tau_step.proofs.Scheduled.{left_all}
use Rattle.tau_step.proofs.Words.{words_left, words_more, words_cut, words_end}
use Rattle.tau_run.specs.Schedule.{Word}
use Rattle.tau_text.specs.declared.load.Turn.TheVariants as turn
use Rattle.tau_step.specs.Rounding.{turned_all}
use Rattle.tau_step.proofs.run.Run.words.Goals as goal

pub loop-turn-init : goal.loop-turn-init
loop-turn-init g c = record { moves = moves_none g.met.D.Disk.seen_now g.K.Sink.tells (words_left c.args.style (peeks_of c.args.peekers.now.items) (peeks_of c.args.peekers.now.items) c.args.turns.now 0) c.args.self.now c.args.writers.now.items (g.K.Sink.held c.args.sink.now) (g.K.Sink.faults c.args.sink.now) c.requires.on (λ P. left_all c.args.style (peeks_of c.args.peekers.now.items) (map Word c.args.turns.now) c.args.self.now.core.load P); fit = c.requires.fit }

pub returns-in_err-turn : goal.returns-in_err-turn
returns-in_err-turn g c = record {
  moves = subst (λ r. Moves (turned_all c.args.style (peeks_of c.args.peekers.now.items) (peeks_of c.turn.new.peekers.items) c.args.turns.now) (is_ok r) c.args.self.now c.turn.new.self c.args.writers.now.items c.turn.new.writers.items g.K.Sink.tells (g.K.Sink.held c.args.sink.now) (g.K.Sink.held c.turn.new.sink) (g.K.Sink.faults c.args.sink.now) (g.K.Sink.faults c.turn.new.sink))
      (sym (err_from_is_err_and c.from_residual.result c.from_residual.ensures.1).1)
      (words_cut g.met.D.Disk.seen_now g.K.Sink.tells c.args.style c.args.turns.now c.loop-turn.turn-index _ (turn.Worker 0) c.loop-turn-test.true refl (peeks_of c.args.peekers.now.items) (peeks_of c.loop-turn.peekers.items) (peeks_of c.turn.new.peekers.items) c.args.self.now c.loop-turn.self c.turn.new.self c.args.writers.now.items c.loop-turn.writers.items c.turn.new.writers.items
      (g.K.Sink.held c.args.sink.now) (g.K.Sink.held c.loop-turn.sink) (g.K.Sink.held c.turn.new.sink) (g.K.Sink.faults c.args.sink.now) (g.K.Sink.faults c.loop-turn.sink) (g.K.Sink.faults c.turn.new.sink) c.loop-turn.invariant.moves c.in_err-turn.ensures.moves);
  fit = rw (err_from_is_err_and c.from_residual.result c.from_residual.ensures.1).1 tt;
}

pub loop-turn-preserved : goal.loop-turn-preserved
loop-turn-preserved g c = record {
  moves = words_more g.met.D.Disk.seen_now g.K.Sink.tells c.args.style c.args.turns.now c.loop-turn.turn-index _ (turn.Worker 0) c.loop-turn-test.true refl (peeks_of c.args.peekers.now.items) (peeks_of c.loop-turn.peekers.items) (peeks_of c.turn.new.peekers.items) c.args.self.now c.loop-turn.self c.turn.new.self c.args.writers.now.items c.loop-turn.writers.items c.turn.new.writers.items
      (g.K.Sink.held c.args.sink.now) (g.K.Sink.held c.loop-turn.sink) (g.K.Sink.held c.turn.new.sink) (g.K.Sink.faults c.args.sink.now) (g.K.Sink.faults c.loop-turn.sink) (g.K.Sink.faults c.turn.new.sink) c.loop-turn.invariant.moves c.in_ok-turn.ensures.moves;
  fit = c.in_ok-turn.ensures.fit;
}

pub returns : goal.returns
returns g c = record {
  moves = words_end g.met.D.Disk.seen_now g.K.Sink.tells c.args.style (peeks_of c.args.peekers.now.items) (peeks_of c.loop-turn.peekers.items) c.args.turns.now c.loop-turn.turn-index (omega (arith, c.loop-turn-test.false)) c.args.self.now c.loop-turn.self c.args.writers.now.items c.loop-turn.writers.items
      (g.K.Sink.held c.args.sink.now) (g.K.Sink.held c.loop-turn.sink) (g.K.Sink.faults c.args.sink.now) (g.K.Sink.faults c.loop-turn.sink) c.loop-turn.invariant.moves;
  fit = c.loop-turn.invariant.fit;
}

pub turn-requires-clause-on : goal.turn-requires-clause-on
turn-requires-clause-on g c = c.loop-turn.invariant.moves.on refl

pub turn-requires-clause-fit : goal.turn-requires-clause-fit
turn-requires-clause-fit g c = c.loop-turn.invariant.fit
