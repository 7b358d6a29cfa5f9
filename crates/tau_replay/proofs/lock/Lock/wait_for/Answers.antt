-- The seat is as it was before it had the turn.
use Rattle.std.proofs.Common.{subst, sym}
use Rattle.tau_replay.specs.Rule.{Sat, IsIdle, Took}
use Rattle.tau_replay.proofs.lock.Lock.wait_for.Goals as goal

pub swap_turn-requires-clause-idle : goal.swap_turn-requires-clause-idle
swap_turn-requires-clause-idle g c = subst IsIdle (sym c.loop.invariant.2) c.requires.idle

pub returns-then-swap_turn-clause-took : goal.returns-then-swap_turn-clause-took
returns-then-swap_turn-clause-took g c = subst (λ (m : Sat). Took m c.swap_turn.new.seat.me) c.loop.invariant.2 (c.swap_turn.ensures.took c.if-swap_turn.true)
