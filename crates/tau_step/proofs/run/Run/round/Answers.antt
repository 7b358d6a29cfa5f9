use Rattle.std.proofs.Common.{refl, sym, true, false, ◌≡◌, ap, ◌∙◌}
use Rattle.std.specs.Prelude.{Ok, Err}
use Rattle.std.proofs.lemmas.Result.{err_from_is_err_and}
use Rattle.tau_step.specs.Optimists.{all_turns_left, peeks_of}
use Rattle.tau_step.specs.Rounding.{rounded_by}
use Rattle.tau_step.proofs.EffectsInTurn.{lowest_nothing, works_manages}
use Rattle.tau_step.proofs.Rounds.{round_rest, round_over, round_short, round_less, round_rests, rounded_quiet, rounded_silent}
use Rattle.tau_step.proofs.StyleFits.{fit_stays}
use Rattle.tau_step.proofs.run.Run.round.Goals as goal

pub workers_round-requires-clause-stood : goal.workers_round-requires-clause-stood
workers_round-requires-clause-stood g c = let a = c.requires.on.along in (a.order, a.hidden, a.stands)

pub workers_round-requires-clause-workers : goal.workers_round-requires-clause-workers
workers_round-requires-clause-workers g c = c.requires.on.workers

pub workers_round-requires-clause-lowest : goal.workers_round-requires-clause-lowest
workers_round-requires-clause-lowest g c = lowest_nothing c.args.self.now.core c.requires.on.along.hidden c.args.self.now.failed c.requires.on.along.lowest

pub rest_of_round-requires : goal.rest_of_round-requires
rest_of_round-requires g c = record { on = (works_manages g.met.D.Disk.seen_now (rounded_by c.args.style (peeks_of c.args.peekers.now.items) (peeks_of c.workers_round.new.peekers.items) (Ok true)) true c.args.self.now c.workers_round.new.self c.args.writers.now.items c.requires.on (rounded_quiet c.args.style (peeks_of c.args.peekers.now.items) (peeks_of c.workers_round.new.peekers.items) (Ok true) true) (rounded_silent c.args.style (peeks_of c.args.peekers.now.items) (peeks_of c.workers_round.new.peekers.items) true true) (rw c.in-true.is at c.in_ok-workers_round.ensures.works)).on refl }

pub returns-in-true-clause-moves : goal.returns-in-true-clause-moves
returns-in-true-clause-moves g c =
    round_rest g.met.D.Disk.seen_now g.K.Sink.tells c.args.style (peeks_of c.args.peekers.now.items) (peeks_of c.workers_round.new.peekers.items) c.rest_of_round.result c.rest_of_round.ensures.some c.args.self.now c.workers_round.new.self c.rest_of_round.new.self c.args.writers.now.items c.rest_of_round.new.writers.items
    (g.K.Sink.held c.args.sink.now) (g.K.Sink.held c.rest_of_round.new.sink) (g.K.Sink.faults c.args.sink.now) (g.K.Sink.faults c.rest_of_round.new.sink) (rw c.in-true.is at c.in_ok-workers_round.ensures.works) c.requires.on c.rest_of_round.ensures.moves

pub returns-in-true-clause-fewer : goal.returns-in-true-clause-fewer
returns-in-true-clause-fewer g c = round_less c.rest_of_round.result (all_turns_left c.args.self.now.core (peeks_of c.args.peekers.now.items)) c.workers_round.new.self.core c.rest_of_round.new.self.core (peeks_of c.workers_round.new.peekers.items) (c.workers_round.ensures.fewer (c.in_ok-workers_round.was ∙ ap Ok c.in-true.is)) c.rest_of_round.ensures.same

pub returns-in-true-clause-fit : goal.returns-in-true-clause-fit
returns-in-true-clause-fit g c = fit_stays c.args.style c.args.load.now c.workers_round.new.peekers.items c.workers_round.new.self.core c.rest_of_round.new.self.core c.rest_of_round.result c.in_ok-workers_round.ensures.fit c.rest_of_round.ensures.same

pub returns-in-false-clause-fit : goal.returns-in-false-clause-fit
returns-in-false-clause-fit g c = c.in_ok-workers_round.ensures.fit

pub returns-in-true-clause-rests : goal.returns-in-true-clause-rests
returns-in-true-clause-rests g c = λ e. absurd (c.rest_of_round.ensures.some e)

pub returns-in-false-clause-moves : goal.returns-in-false-clause-moves
returns-in-false-clause-moves g c = round_over g.met.D.Disk.seen_now g.K.Sink.tells c.args.style (peeks_of c.args.peekers.now.items) (peeks_of c.workers_round.new.peekers.items) c.args.self.now c.workers_round.new.self c.args.writers.now.items (g.K.Sink.held c.args.sink.now) (g.K.Sink.faults c.args.sink.now) (rw c.in-false.is at c.in_ok-workers_round.ensures.works) c.requires.on

pub returns-in-false-clause-fewer : goal.returns-in-false-clause-fewer
returns-in-false-clause-fewer g c = λ e. absurd (let bad : Ok false ≡ Ok true = e in cc)

pub returns-in-false-clause-rests : goal.returns-in-false-clause-rests
returns-in-false-clause-rests g c = λ e. (let a = c.requires.on.along in round_rests c.args.style (peeks_of c.args.peekers.now.items) c.args.load.now c.workers_round.new.peekers.items c.args.self.now c.workers_round.new.self (a.order, a.hidden, a.stands) c.in_ok-workers_round.ensures.fit (rw c.in-false.is at c.in_ok-workers_round.ensures.works))

pub returns-in_err-workers_round-clause-moves : goal.returns-in_err-workers_round-clause-moves
returns-in_err-workers_round-clause-moves g c = rw (err_from_is_err_and c.from_residual.result c.from_residual.ensures.1).1 (round_short g.met.D.Disk.seen_now g.K.Sink.tells c.args.style (peeks_of c.args.peekers.now.items) (peeks_of c.workers_round.new.peekers.items) _ c.args.self.now c.workers_round.new.self c.args.writers.now.items (g.K.Sink.held c.args.sink.now) (g.K.Sink.faults c.args.sink.now) c.in_err-workers_round.ensures.works c.requires.on)

pub returns-in_err-workers_round-clause-fewer : goal.returns-in_err-workers_round-clause-fewer
returns-in_err-workers_round-clause-fewer g c = λ e.
    let p = err_from_is_err_and c.from_residual.result c.from_residual.ensures.1 in
    absurd (let bad : Err p.0 ≡ Ok true = sym p.1 ∙ e in cc)

pub returns-in_err-workers_round-clause-rests : goal.returns-in_err-workers_round-clause-rests
returns-in_err-workers_round-clause-rests g c = λ e.
    let p = err_from_is_err_and c.from_residual.result c.from_residual.ensures.1 in
    absurd (let bad : Err p.0 ≡ Ok false = sym p.1 ∙ e in cc)

pub workers_round-requires-clause-fit : goal.workers_round-requires-clause-fit
workers_round-requires-clause-fit g c = c.requires.fit

pub returns-in_err-workers_round-clause-fit : goal.returns-in_err-workers_round-clause-fit
returns-in_err-workers_round-clause-fit g c = rw (err_from_is_err_and c.from_residual.result c.from_residual.ensures.1).1 tt
