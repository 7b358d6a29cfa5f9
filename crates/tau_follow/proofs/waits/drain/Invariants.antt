-- Those that waited wait still, or are looked at.
use Rattle.std.proofs.Common.{length}
use Rattle.tau_follow.specs.Waits.{Moves}
use Rattle.tau_follow.proofs.waits.drain.Given as goal

abbrev pub invariant-moves : goal.invariant-moves
invariant-moves l = Moves l.initial.looked.items l.initial.queue l.looked.items l.queue

abbrev pub decreases-moves : goal.decreases-moves
decreases-moves l = length l.queue
