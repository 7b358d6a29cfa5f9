use Rattle.std.proofs.Common.{sym, ◌∙◌}
use Rattle.std.proofs.lemmas.Result.{err_from_is_err_and}
use Rattle.tau_step.proofs.OptimistTurns.{begun_peeks, call_taken, calls_few, locked_fits, number_high, number_low}
use Rattle.tau_step.proofs.seen.locking_turn.Goals as goal

pub begin_first-requires-clause-low : goal.begin_first-requires-clause-low
begin_first-requires-clause-low c = number_low c.args.core.now c.args.worker c.args.number c.args.key c.args.mode c.requires.at c.requires.stood c.args.load.now.declarations.procs c.args.load.now.calls c.requires.procs c.requires.calls

pub begin_first-requires-clause-high : goal.begin_first-requires-clause-high
begin_first-requires-clause-high c = number_high c.args.core.now c.args.worker c.args.number c.args.key c.args.mode c.requires.at c.requires.stood c.args.load.now.declarations.procs c.args.load.now.calls c.requires.procs c.requires.calls

pub begin_first-requires-clause-few : goal.begin_first-requires-clause-few
begin_first-requires-clause-few c = calls_few c.args.core.now c.args.worker c.args.number c.args.key c.args.mode c.requires.at c.requires.stood c.args.load.now.declarations.procs c.args.load.now.calls c.requires.procs c.requires.calls

pub begin_first-requires-clause-takes : goal.begin_first-requires-clause-takes
begin_first-requires-clause-takes c = call_taken c.args.core.now c.args.worker c.args.number c.args.key c.args.mode c.requires.at c.requires.stood c.args.load.now.declarations.procs c.args.load.now.calls c.requires.procs c.requires.calls

pub seen_turn-requires-clause-peeks : goal.seen_turn-requires-clause-peeks
seen_turn-requires-clause-peeks c = begun_peeks c.args.core.now c.args.worker c.args.number c.args.key c.args.mode c.requires.at c.requires.stood c.args.load.now.declarations.procs c.args.load.now.calls c.requires.procs c.requires.calls c.args.peeker.now c.begin_first.new.peeker c.requires.fits c.begin_first.ensures.same c.begin_first.ensures.peeks

pub returns-clause-turned : goal.returns-clause-turned
returns-clause-turned c = λ K h es told f g same.
    let works = c.requires.works K h es told f g same in
    (sym works, c.in_ok-seen_turn.ensures.turned K h es told f g (same ∙ sym c.begin_first.ensures.seen) works)

pub returns-clause-fits : goal.returns-clause-fits
returns-clause-fits c =
    locked_fits c.args.core.now c.seen_turn.new.core c.args.worker c.args.number c.args.key c.args.mode c.requires.at c.requires.stood
    c.args.peeker.now c.begin_first.new.peeker c.seen_turn.new.peeker c.requires.fits c.begin_first.ensures.seen (begun_peeks c.args.core.now c.args.worker c.args.number c.args.key c.args.mode c.requires.at c.requires.stood c.args.load.now.declarations.procs c.args.load.now.calls c.requires.procs c.requires.calls c.args.peeker.now c.begin_first.new.peeker c.requires.fits c.begin_first.ensures.same c.begin_first.ensures.peeks) c.requires.works c.in_ok-seen_turn.ensures.turned c.in_ok-seen_turn.ensures.kept

pub returns-in_err-seen_turn-clause-turned : goal.returns-in_err-seen_turn-clause-turned
returns-in_err-seen_turn-clause-turned c = λ K h es told f g same.
    let works = c.requires.works K h es told f g same in
    rw (err_from_is_err_and c.from_residual.result c.from_residual.ensures.1).1 (c.in_err-seen_turn.ensures.turned K h es told f g (same ∙ sym c.begin_first.ensures.seen) works)
