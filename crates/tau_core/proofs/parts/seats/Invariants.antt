use Rattle.tau_core.specs.Opens.{AreSeats}
use Rattle.tau_core.proofs.parts.seats.Given as goal

abbrev pub invariant-loop-worker : goal.invariant-loop-worker
invariant-loop-worker l = AreSeats l.worker l.streams l.mode l.all.items
