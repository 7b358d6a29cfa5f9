use Rattle.std.proofs.Common.{◌<◌, refl, sym, subst, ◌∙◌, ap}
use Rattle.std.specs.Prelude.{Ok}
use Rattle.std.proofs.lemmas.Result.{err_from_is_err_and}
use Rattle.tau_core.specs.declared.state.Load.{Load}
use Rattle.tau_step.specs.Acting.{Tells}
use Rattle.tau_step.proofs.Working.{begin_locked, begin_short, begin_ended, rest_raised}
use Rattle.tau_step.proofs.Settling.{settles_none, settles_on, locked_settles, done_settles}
use Rattle.tau_step.proofs.worker.begin_turn.Goals as goal

pub returns-then-stopped-clause-turned : goal.returns-then-stopped-clause-turned
returns-then-stopped-clause-turned c = λ K h es told g.
    rest_raised c.args.core.now c.args.core.now K h es told c.args.worker (c.requires.rests K h g) (sym (c.requires.stop h) ∙ c.if-stopped.true) (record { hidden = h; same = refl; stands = g; load = refl; taken = refl })

pub returns-in_err-began-clause-turned : goal.returns-in_err-began-clause-turned
returns-in_err-began-clause-turned c = λ K h es told g.
    rw (err_from_is_err_and c.from_residual.result c.from_residual.ensures.1).1 (begin_short c.args.core.now c.lock.new.core K h es told c.args.worker c.lock.ensures.acts.outcome _ (subst (λ r. Tells c.lock.ensures.acts.outcome r) c.in_err-began.was c.lock.ensures.acts.tells) (c.lock.ensures.acts.steps K h g))

pub returns-then-began-clause-turned : goal.returns-then-began-clause-turned
returns-then-began-clause-turned c = λ K h es told g.
    begin_locked c.args.core.now c.lock.new.core K h es told c.args.worker c.lock.ensures.acts.outcome (subst (λ r. Tells c.lock.ensures.acts.outcome r) (c.in_ok-began.was ∙ ap Ok c.if-began.true) c.lock.ensures.acts.tells) (c.lock.ensures.acts.steps K h g)
    (c.requires.rests K h g) (sym (c.requires.stop h) ∙ c.if-stopped.false) c.requires.there

pub done-requires-clause-there : goal.done-requires-clause-there
done-requires-clause-there c = subst (λ (l : Load). c.args.worker < l.workers) (sym c.lock.ensures.load) c.requires.there

pub returns-clause-turned : goal.returns-clause-turned
returns-clause-turned c = λ K h es told g.
    begin_ended c.args.core.now c.done.new.core K h es told c.args.worker c.lock.new.core (c.requires.rests K h g) (sym (c.requires.stop h) ∙ c.if-stopped.false) c.requires.there
    c.lock.ensures.acts.outcome (subst (λ r. Tells c.lock.ensures.acts.outcome r) (c.in_ok-began.was ∙ ap Ok c.if-began.false) c.lock.ensures.acts.tells) (c.lock.ensures.acts.steps K h g) c.done.result c.done.ensures.acts

pub returns-then-stopped-clause-alone : goal.returns-then-stopped-clause-alone
returns-then-stopped-clause-alone c = λ alone settling. settles_none c.args.worker c.args.core.now settling

pub returns-in_err-began-clause-alone : goal.returns-in_err-began-clause-alone
returns-in_err-began-clause-alone c = λ alone settling.
    let (K, h, g) = c.requires.stood in
    locked_settles c.args.core.now c.lock.new.core K h g c.args.worker settling alone c.lock.ensures.acts.outcome (c.lock.ensures.acts.steps K h g)

pub returns-then-began-clause-alone : goal.returns-then-began-clause-alone
returns-then-began-clause-alone c = λ alone settling.
    let (K, h, g) = c.requires.stood in
    locked_settles c.args.core.now c.lock.new.core K h g c.args.worker settling alone c.lock.ensures.acts.outcome (c.lock.ensures.acts.steps K h g)

pub returns-clause-alone : goal.returns-clause-alone
returns-clause-alone c = λ alone settling.
    let (K, h, g) = c.requires.stood in
    let a = locked_settles c.args.core.now c.lock.new.core K h g c.args.worker settling alone c.lock.ensures.acts.outcome (c.lock.ensures.acts.steps K h g) in
    let (K', h', g') = c.lock.ensures.stood in
    settles_on c.args.worker c.args.core.now c.lock.new.core c.done.new.core a
    (done_settles c.lock.new.core c.done.new.core K' h' g' c.args.worker a.settling c.done.ensures.acts.outcome (c.done.ensures.acts.steps K' h' g'))
