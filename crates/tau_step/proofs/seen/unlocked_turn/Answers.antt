use Rattle.std.proofs.Common.{inl, inr, refl, sym, ap, subst, ◌<◌}
use Rattle.std.proofs.lemmas.Result.{err_from_is_err_and}
use Rattle.tau_base.proofs.Logic.{not_both}
use Rattle.tau_core.specs.declared.state.Load.{Load}
use Rattle.tau_occ.specs.Peeker.{PlainPeeker}
use Rattle.tau_step.proofs.OptimistTurns.{stood_after, unlocked_by, unlocked_fits}
use Rattle.tau_step.proofs.seen.unlocked_turn.Goals as goal

pub is_resting-requires-clause-stood : goal.is_resting-requires-clause-stood
is_resting-requires-clause-stood c = (stood_after c.args.worker c.args.core.now c.worker_turn.new.core c.in_ok-did.did c.requires.stood c.in_ok-did.ensures.turned).0

pub is_resting-requires-clause-there : goal.is_resting-requires-clause-there
is_resting-requires-clause-there c = subst (λ (l : Load). c.args.worker < l.workers) (sym (stood_after c.args.worker c.args.core.now c.worker_turn.new.core c.in_ok-did.did c.requires.stood c.in_ok-did.ensures.turned).1) c.requires.there

pub returns-then-is_resting-clause-turned : goal.returns-then-is_resting-clause-turned
returns-then-is_resting-clause-turned c =
    unlocked_by c.args.worker c.args.core.now c.worker_turn.new.core c.args.peeker.now c.forget.new.self.seen c.requires.there c.requires.none c.requires.fits
    (inl (c.is_resting.ensures.0 c.if-is_resting.true, ap (λ (q : PlainPeeker). q.seen) c.forget.ensures)) c.in_ok-did.did c.in_ok-did.ensures.turned

pub returns-then-is_resting-clause-fits : goal.returns-then-is_resting-clause-fits
returns-then-is_resting-clause-fits c =
    let empty = ap (λ (q : PlainPeeker). q.seen) c.forget.ensures in
    unlocked_fits c.args.core.now c.worker_turn.new.core c.args.worker c.requires.none c.requires.there c.requires.stood c.args.peeker.now c.forget.new.self c.requires.fits (inl empty)
    (inl (c.is_resting.ensures.0 c.if-is_resting.true, empty)) (λ K h es told g. (c.in_ok-did.ensures.turned K h es told g).1)

pub returns-clause-turned : goal.returns-clause-turned
returns-clause-turned c =
    unlocked_by c.args.worker c.args.core.now c.worker_turn.new.core c.args.peeker.now c.args.peeker.now.seen c.requires.there c.requires.none c.requires.fits
    (inr (λ none. not_both c.is_resting.result c.if-is_resting.false (c.is_resting.ensures.1 none), refl)) c.in_ok-did.did c.in_ok-did.ensures.turned

pub returns-clause-fits : goal.returns-clause-fits
returns-clause-fits c =
    unlocked_fits c.args.core.now c.worker_turn.new.core c.args.worker c.requires.none c.requires.there c.requires.stood c.args.peeker.now c.args.peeker.now c.requires.fits (inr refl)
    (inr (λ none. not_both c.is_resting.result c.if-is_resting.false (c.is_resting.ensures.1 none), refl)) (λ K h es told g. (c.in_ok-did.ensures.turned K h es told g).1)

pub returns-in_err-did-clause-turned : goal.returns-in_err-did-clause-turned
returns-in_err-did-clause-turned c = λ K h es told f g same.
    rw (err_from_is_err_and c.from_residual.result c.from_residual.ensures.1).1 (c.in_err-did.ensures.turned K h es told g, sym same)
