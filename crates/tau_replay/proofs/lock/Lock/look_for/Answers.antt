-- The seat is as it was before it had the turn.
use Rattle.std.proofs.Common.{subst, sym}
use Rattle.tau_replay.specs.Rule.{Sat, IsIdle, Took}
use Rattle.tau_replay.proofs.lock.Lock.look_for.Goals as goal

pub try_seen-requires-clause-idle : goal.try_seen-requires-clause-idle
try_seen-requires-clause-idle c = subst IsIdle (sym c.loop.invariant.2) c.requires.idle

pub returns-then-try_seen-clause-took : goal.returns-then-try_seen-clause-took
returns-then-try_seen-clause-took c = λ is. subst (λ (m : Sat). Took m c.try_seen.new.seat.me) c.loop.invariant.2 (c.try_seen.ensures.took c.if-try_seen.true)
