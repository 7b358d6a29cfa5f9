use Rattle.std.proofs.Common.{sym, ◌∙◌}
use Rattle.tau_step.proofs.OptimistTurns.{is_at_lock, is_at_none, stopped_turned, works_locked}
use Rattle.tau_step.proofs.seen.optimistic_turn.Goals as goal

pub returns-then-rests-clause-turned : goal.returns-then-rests-clause-turned
returns-then-rests-clause-turned c = λ K h es told f g same.
    let (stop, none, empty) = c.rests.ensures.so c.if-rests.true in
    stopped_turned c.args.worker c.args.core.now K h es told f c.args.peeker.now.seen c.requires.there g (sym (c.requires.stop h) ∙ stop) none empty same

pub returns-then-rests-clause-fits : goal.returns-then-rests-clause-fits
returns-then-rests-clause-fits c = c.requires.fits

pub locking_turn-requires-clause-at : goal.locking_turn-requires-clause-at
locking_turn-requires-clause-at c = is_at_lock c.args.core.now c.args.worker c.in-Some.number c.in-Some.key c.in-Some.mode c.next_lock.result c.next_lock.ensures c.in-Some.is

pub locking_turn-requires-clause-works : goal.locking_turn-requires-clause-works
locking_turn-requires-clause-works c = works_locked c.args.core.now c.args.core.now c.args.worker c.in-Some.number c.in-Some.key c.in-Some.mode (is_at_lock c.args.core.now c.args.worker c.in-Some.number c.in-Some.key c.in-Some.mode c.next_lock.result c.next_lock.ensures c.in-Some.is) c.requires.there c.args.stopped c.requires.stop c.args.peeker.now
    (c.rests.ensures.not c.if-rests.false)

pub unlocked_turn-requires-clause-none : goal.unlocked_turn-requires-clause-none
unlocked_turn-requires-clause-none c = is_at_none c.args.core.now c.args.worker c.next_lock.result c.next_lock.ensures c.in-None.is
