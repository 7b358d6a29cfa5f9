use Rattle.std.specs.Prelude.{is_ok}
use Rattle.std.proofs.lemmas.Result.{err_from_is_err_and}
use Rattle.tau_step.proofs.EffectsInTurn.{lowest_nothing}
use Rattle.tau_step.proofs.Staged.{left_on, last_drained, last_short}
use Rattle.tau_step.proofs.run.Run.behind_rounds.Goals as goal

pub left_over-requires-clause-stood : goal.left_over-requires-clause-stood
left_over-requires-clause-stood g c = let a = c.requires.on.along in (a.order, a.hidden, a.stands)

pub left_over-requires-clause-lowest : goal.left_over-requires-clause-lowest
left_over-requires-clause-lowest g c = lowest_nothing c.args.self.now.core c.requires.on.along.hidden c.args.self.now.failed c.requires.on.along.lowest

pub left_over-requires-clause-rests : goal.left_over-requires-clause-rests
left_over-requires-clause-rests g c = c.requires.rests

pub drain-requires : goal.drain-requires
drain-requires g c = record { on = left_on g.met.D.Disk.seen_now g.K.Sink.tells c.args.self.now c.left_over.new.self c.args.writers.now.items (g.K.Sink.held c.args.sink.now) (g.K.Sink.faults c.args.sink.now) c.requires.on c.in_ok-left_over.ensures.works }

pub returns : goal.returns
returns g c = record {
  moves = last_drained g.met.D.Disk.seen_now g.K.Sink.tells (is_ok c.drain.result) c.args.self.now c.left_over.new.self c.drain.new.self c.args.writers.now.items c.drain.new.writers.items
      (g.K.Sink.held c.args.sink.now) (g.K.Sink.held c.drain.new.sink) (g.K.Sink.faults c.args.sink.now) (g.K.Sink.faults c.drain.new.sink) c.requires.on c.in_ok-left_over.ensures.works c.drain.ensures.moves;
}

pub returns-in_err-left_over : goal.returns-in_err-left_over
returns-in_err-left_over g c = record { moves = rw (err_from_is_err_and c.from_residual.result c.from_residual.ensures.1).1 (last_short g.met.D.Disk.seen_now g.K.Sink.tells c.args.self.now c.left_over.new.self c.args.writers.now.items (g.K.Sink.held c.args.sink.now) (g.K.Sink.faults c.args.sink.now) c.requires.on c.in_err-left_over.ensures.works) }
