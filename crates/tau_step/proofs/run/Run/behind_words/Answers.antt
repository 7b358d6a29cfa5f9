use Rattle.std.proofs.Common.{refl}
use Rattle.std.specs.Prelude.{is_ok}
use Rattle.std.proofs.lemmas.Result.{err_from_is_err_and}
use Rattle.tau_step.specs.Optimists.{peeks_of}
use Rattle.tau_step.proofs.Staged.{behind_last, behind_short}
use Rattle.tau_step.proofs.run.Run.behind_words.Goals as goal

pub rounds-requires : goal.rounds-requires
rounds-requires g c = record { on = c.requires.on; fit = c.requires.fit }

pub behind_rounds-requires-clause-on : goal.behind_rounds-requires-clause-on
behind_rounds-requires-clause-on g c = c.in_ok-rounds.ensures.moves.on refl

pub behind_rounds-requires-clause-rests : goal.behind_rounds-requires-clause-rests
behind_rounds-requires-clause-rests g c = c.in_ok-rounds.ensures.rests

pub returns : goal.returns
returns g c = record {
  moves = behind_last g.met.D.Disk.seen_now g.K.Sink.tells c.args.style (peeks_of c.args.peekers.now.items) (peeks_of c.rounds.new.peekers.items) c.in_ok-rounds.ensures.none (is_ok c.behind_rounds.result) c.args.self.now c.rounds.new.self c.behind_rounds.new.self c.args.writers.now.items c.rounds.new.writers.items c.behind_rounds.new.writers.items
      (g.K.Sink.held c.args.sink.now) (g.K.Sink.held c.rounds.new.sink) (g.K.Sink.held c.behind_rounds.new.sink) (g.K.Sink.faults c.args.sink.now) (g.K.Sink.faults c.rounds.new.sink) (g.K.Sink.faults c.behind_rounds.new.sink) c.in_ok-rounds.ensures.moves c.behind_rounds.ensures.moves;
}

pub returns-in_err-rounds : goal.returns-in_err-rounds
returns-in_err-rounds g c = record { moves = rw (err_from_is_err_and c.from_residual.result c.from_residual.ensures.1).1 (behind_short g.met.D.Disk.seen_now g.K.Sink.tells c.args.style (peeks_of c.args.peekers.now.items) (peeks_of c.rounds.new.peekers.items) c.args.self.now c.rounds.new.self c.args.writers.now.items c.rounds.new.writers.items (g.K.Sink.held c.args.sink.now) (g.K.Sink.held c.rounds.new.sink) (g.K.Sink.faults c.args.sink.now) (g.K.Sink.faults c.rounds.new.sink) c.in_err-rounds.ensures.moves) }
