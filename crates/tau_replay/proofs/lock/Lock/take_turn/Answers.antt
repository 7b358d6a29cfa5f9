-- The seat is as it was before it had the turn.
use Rattle.std.proofs.Common.{subst, ◌∙◌}
use Rattle.tau_replay.specs.Rule.{Sat, Took}
use Rattle.tau_replay.proofs.lock.Lock.take_turn.Goals as goal

pub returns-then-try_take-clause-took : goal.returns-then-try_take-clause-took
returns-then-try_take-clause-took g c = c.try_take.ensures.took c.if-try_take.true

pub returns-then-look_for-clause-took : goal.returns-then-look_for-clause-took
returns-then-look_for-clause-took g c = subst (λ (m : Sat). Took m c.look_for.new.seat.me) (c.try_take.ensures.missed c.if-try_take.false) (c.look_for.ensures.took c.if-look_for.true)

pub returns-clause-took : goal.returns-clause-took
returns-clause-took g c =
    subst (λ (m : Sat). Took m c.wait_for.new.seat.me) (c.look_for.ensures.missed c.if-look_for.false ∙ c.try_take.ensures.missed c.if-try_take.false) c.wait_for.ensures.took
