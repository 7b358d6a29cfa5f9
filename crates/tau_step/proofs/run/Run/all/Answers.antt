use Rattle.std.proofs.Common.{refl}
use Rattle.std.specs.Prelude.{is_ok}
use Rattle.std.proofs.lemmas.Result.{err_from_is_err_and}
use Rattle.tau_run.specs.RunFacts.{turns_of}
use Rattle.tau_step.specs.Optimists.{peeks_of}
use Rattle.tau_step.proofs.Staged.{all_behind, all_short}
use Rattle.tau_step.proofs.run.Run.all.Goals as goal

pub named-requires : goal.named-requires
named-requires g c = record { on = c.requires.on; fit = c.requires.fit }

pub behind_words-requires : goal.behind_words-requires
behind_words-requires g c = record { on = c.in_ok-named.ensures.moves.on refl; fit = c.in_ok-named.ensures.fit }

pub returns : goal.returns
returns g c = record {
  moves = all_behind g.met.D.Disk.seen_now g.K.Sink.tells c.args.style (turns_of c.args.load.now) (peeks_of c.args.peekers.now.items) (peeks_of c.named.new.peekers.items) (peeks_of c.behind_words.new.peekers.items) (is_ok c.behind_words.result) c.args.self.now c.named.new.self c.behind_words.new.self c.args.writers.now.items c.named.new.writers.items c.behind_words.new.writers.items
      (g.K.Sink.held c.args.sink.now) (g.K.Sink.held c.named.new.sink) (g.K.Sink.held c.behind_words.new.sink) (g.K.Sink.faults c.args.sink.now) (g.K.Sink.faults c.named.new.sink) (g.K.Sink.faults c.behind_words.new.sink) c.in_ok-named.ensures.moves c.behind_words.ensures.moves;
}

pub returns-in_err-named : goal.returns-in_err-named
returns-in_err-named g c = record { moves = rw (err_from_is_err_and c.from_residual.result c.from_residual.ensures.1).1 (all_short g.met.D.Disk.seen_now g.K.Sink.tells c.args.style (turns_of c.args.load.now) (peeks_of c.args.peekers.now.items) (peeks_of c.named.new.peekers.items) c.args.self.now c.named.new.self c.args.writers.now.items c.named.new.writers.items (g.K.Sink.held c.args.sink.now) (g.K.Sink.held c.named.new.sink) (g.K.Sink.faults c.args.sink.now) (g.K.Sink.faults c.named.new.sink) c.in_err-named.ensures.moves) }
