-- The seat has the part.
use Rattle.std.proofs.Common.{ap}
use Rattle.tau_replay.specs.Rule.{Sat}
use Rattle.tau_replay.proofs.lock.Lock.take.Goals as goal

pub lift-requires-clause-has : goal.lift-requires-clause-has
lift-requires-clause-has g c = let t = c.take_turn.ensures.took in (t.part, ap (λ (m : Sat). m.1) t.now)
