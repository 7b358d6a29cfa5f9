use Rattle.std.proofs.Common.{refl, sym, true, false, ◌≡◌, ◌∙◌}
use Rattle.std.specs.Prelude.{Ok, Err}
use Rattle.std.proofs.lemmas.Result.{err_from_is_err_and}
use Rattle.tau_step.proofs.EffectsInTurn.{clerk_moves}
use Rattle.tau_step.proofs.Rounds.{rest_clerk, rest_managers}
use Rattle.tau_step.proofs.StyleFits.{clerk_same, workers_on}
use Rattle.tau_step.proofs.run.Run.rest_of_round.Goals as goal

pub managers_round-requires : goal.managers_round-requires
managers_round-requires g c = record { on = c.requires.on }

pub clerk-requires-clause-stood : goal.clerk-requires-clause-stood
clerk-requires-clause-stood g c = let a = (c.in_ok-managers_round.ensures.manages.on refl).along in (a.order, a.hidden, a.stands)

pub clerk-requires-clause-workers : goal.clerk-requires-clause-workers
clerk-requires-clause-workers g c = (c.in_ok-managers_round.ensures.manages.on refl).workers

pub returns-clause-moves : goal.returns-clause-moves
returns-clause-moves g c =
    rest_clerk g.met.D.Disk.seen_now g.K.Sink.tells true c.args.self.now c.managers_round.new.self c.clerk.new.self c.args.writers.now.items c.managers_round.new.writers.items (g.K.Sink.held c.args.sink.now) (g.K.Sink.held c.clerk.new.sink) (g.K.Sink.faults c.args.sink.now) (g.K.Sink.faults c.clerk.new.sink) c.in_ok-managers_round.ensures.manages
    (clerk_moves g.met.D.Disk.seen_now g.K.Sink.tells c.managers_round.new.self c.clerk.new.self c.managers_round.new.writers.items (g.K.Sink.held c.args.sink.now) (g.K.Sink.held c.clerk.new.sink) (g.K.Sink.faults c.args.sink.now) (g.K.Sink.faults c.clerk.new.sink)
    (c.in_ok-managers_round.ensures.manages.on refl) c.clerk.ensures.faults c.clerk.ensures.cause c.clerk.ensures.load c.clerk.ensures.failed c.clerk.ensures.workers c.clerk.ensures.streams c.clerk.ensures.flushes (Unit {0}) (Ok tt) c.in_ok-clerk.ensures.passed c.in_ok-clerk.ensures.heard)

pub returns-clause-same : goal.returns-clause-same
returns-clause-same g c =
    let a = (c.in_ok-managers_round.ensures.manages.on refl).along in
    workers_on c.args.self.now.core c.managers_round.new.self.core c.clerk.new.self.core c.in_ok-managers_round.ensures.same
    (clerk_same {A = Unit {0}} c.managers_round.new.self c.clerk.new.self g.K.Sink.tells (g.K.Sink.held c.args.sink.now) (g.K.Sink.held c.clerk.new.sink) (a.order, a.hidden, a.stands) (tt {0}) c.in_ok-clerk.ensures.passed)

pub returns-clause-some : goal.returns-clause-some
returns-clause-some g c = λ e. (let bad : Ok true ≡ Ok false = e in cc)

pub returns-in_err-clerk-clause-moves : goal.returns-in_err-clerk-clause-moves
returns-in_err-clerk-clause-moves g c =
    rw (err_from_is_err_and c.from_residual-in_err-clerk.result c.from_residual-in_err-clerk.ensures.1).1 (rest_clerk g.met.D.Disk.seen_now g.K.Sink.tells false c.args.self.now c.managers_round.new.self c.clerk.new.self c.args.writers.now.items c.managers_round.new.writers.items (g.K.Sink.held c.args.sink.now) (g.K.Sink.held c.clerk.new.sink) (g.K.Sink.faults c.args.sink.now) (g.K.Sink.faults c.clerk.new.sink) c.in_ok-managers_round.ensures.manages
    (clerk_moves g.met.D.Disk.seen_now g.K.Sink.tells c.managers_round.new.self c.clerk.new.self c.managers_round.new.writers.items (g.K.Sink.held c.args.sink.now) (g.K.Sink.held c.clerk.new.sink) (g.K.Sink.faults c.args.sink.now) (g.K.Sink.faults c.clerk.new.sink)
    (c.in_ok-managers_round.ensures.manages.on refl) c.clerk.ensures.faults c.clerk.ensures.cause c.clerk.ensures.load c.clerk.ensures.failed c.clerk.ensures.workers c.clerk.ensures.streams c.clerk.ensures.flushes (Unit {0}) (Err _) c.in_err-clerk.ensures.passed c.in_err-clerk.ensures.heard))

pub returns-in_err-clerk-clause-some : goal.returns-in_err-clerk-clause-some
returns-in_err-clerk-clause-some g c = λ e.
    let p = err_from_is_err_and c.from_residual-in_err-clerk.result c.from_residual-in_err-clerk.ensures.1 in
    (let bad : Err p.0 ≡ Ok false = sym p.1 ∙ e in cc)

pub returns-in_err-managers_round-clause-moves : goal.returns-in_err-managers_round-clause-moves
returns-in_err-managers_round-clause-moves g c = rw (err_from_is_err_and c.from_residual.result c.from_residual.ensures.1).1 (rest_managers g.met.D.Disk.seen_now g.K.Sink.tells c.args.self.now c.managers_round.new.self c.args.writers.now.items c.managers_round.new.writers.items (g.K.Sink.held c.args.sink.now) (g.K.Sink.faults c.args.sink.now) c.in_err-managers_round.ensures.manages)

pub returns-in_err-managers_round-clause-some : goal.returns-in_err-managers_round-clause-some
returns-in_err-managers_round-clause-some g c = λ e.
    let p = err_from_is_err_and c.from_residual.result c.from_residual.ensures.1 in
    (let bad : Err p.0 ≡ Ok false = sym p.1 ∙ e in cc)
