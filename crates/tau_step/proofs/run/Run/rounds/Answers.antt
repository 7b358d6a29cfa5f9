use Rattle.std.proofs.Common.{refl, ap, ◌∙◌}
use Rattle.std.specs.Prelude.{Ok}
use Rattle.std.proofs.lemmas.Result.{err_from_is_err_and}
use Rattle.tau_step.specs.Optimists.{peeks_of}
use Rattle.tau_step.proofs.Rounds.{rounds_none, rounds_more, rounds_end, rounds_cut}
use Rattle.tau_step.proofs.run.Run.rounds.Goals as goal

pub rounds-init : goal.rounds-init
rounds-init g c = record { moves = rounds_none g.met.D.Disk.seen_now g.K.Sink.tells c.args.style (peeks_of c.args.peekers.now.items) c.args.self.now c.args.writers.now.items (g.K.Sink.held c.args.sink.now) (g.K.Sink.faults c.args.sink.now) c.requires.on; fit = c.requires.fit }

pub round-requires : goal.round-requires
round-requires g c = record { on = c.rounds.invariant.moves.on refl; fit = c.rounds.invariant.fit }

pub rounds-preserved : goal.rounds-preserved
rounds-preserved g c = record {
  moves = rounds_more g.met.D.Disk.seen_now g.K.Sink.tells c.args.style (peeks_of c.args.peekers.now.items) (peeks_of c.rounds.peekers.items) (peeks_of c.round.new.peekers.items) c.args.self.now c.rounds.self c.round.new.self c.args.writers.now.items c.rounds.writers.items c.round.new.writers.items
      (g.K.Sink.held c.args.sink.now) (g.K.Sink.held c.rounds.sink) (g.K.Sink.held c.round.new.sink) (g.K.Sink.faults c.args.sink.now) (g.K.Sink.faults c.rounds.sink) (g.K.Sink.faults c.round.new.sink) c.rounds.invariant.moves (rw c.if-branch.true at c.in_ok-round.ensures.moves);
  fit = c.in_ok-round.ensures.fit;
}

pub rounds-smaller : goal.rounds-smaller
rounds-smaller g c = c.round.ensures.fewer (c.in_ok-round.was ∙ ap Ok c.if-branch.true)

pub returns-clause-moves : goal.returns-clause-moves
returns-clause-moves g c =
    rounds_end g.met.D.Disk.seen_now g.K.Sink.tells c.args.style (peeks_of c.args.peekers.now.items) (peeks_of c.rounds.peekers.items) (peeks_of c.round.new.peekers.items) c.args.self.now c.rounds.self c.round.new.self c.args.writers.now.items c.rounds.writers.items c.round.new.writers.items
    (g.K.Sink.held c.args.sink.now) (g.K.Sink.held c.rounds.sink) (g.K.Sink.held c.round.new.sink) (g.K.Sink.faults c.args.sink.now) (g.K.Sink.faults c.rounds.sink) (g.K.Sink.faults c.round.new.sink) c.rounds.invariant.moves (rw c.if-branch.false at c.in_ok-round.ensures.moves)

pub returns-clause-rests : goal.returns-clause-rests
returns-clause-rests g c = (c.round.ensures.rests (c.in_ok-round.was ∙ ap Ok c.if-branch.false)).0

pub returns-clause-none : goal.returns-clause-none
returns-clause-none g c = (c.round.ensures.rests (c.in_ok-round.was ∙ ap Ok c.if-branch.false)).1

pub returns-in_err-round : goal.returns-in_err-round
returns-in_err-round g c = record {
  moves = rw (err_from_is_err_and c.from_residual.result c.from_residual.ensures.1).1 (rounds_cut g.met.D.Disk.seen_now g.K.Sink.tells c.args.style (peeks_of c.args.peekers.now.items) (peeks_of c.rounds.peekers.items) (peeks_of c.round.new.peekers.items) c.args.self.now c.rounds.self c.round.new.self c.args.writers.now.items c.rounds.writers.items c.round.new.writers.items
      (g.K.Sink.held c.args.sink.now) (g.K.Sink.held c.rounds.sink) (g.K.Sink.held c.round.new.sink) (g.K.Sink.faults c.args.sink.now) (g.K.Sink.faults c.rounds.sink) (g.K.Sink.faults c.round.new.sink) c.rounds.invariant.moves _ c.in_err-round.ensures.moves);
  rests = rw (err_from_is_err_and c.from_residual.result c.from_residual.ensures.1).1 tt;
  none = rw (err_from_is_err_and c.from_residual.result c.from_residual.ensures.1).1 tt;
}
