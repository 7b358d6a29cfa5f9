-- All are found still.
use Rattle.std.proofs.Common.{◌≡◌, length}
use Rattle.tau_follow.specs.Waits.{AreFound, AreAllAbove}
use Rattle.tau_follow.proofs.waits.Waits.find.Given as goal

abbrev pub invariant-looks : goal.invariant-looks
invariant-looks l = record {
  found : AreFound l.streams l.stages l.initial.self.looked.items l.initial.self.queues.items → AreFound l.streams l.stages l.self.looked.items l.self.queues.items;
  above : AreAllAbove l.reached l.initial.self.queues.items → AreAllAbove l.reached l.self.queues.items;
  lost : l.self.lost ≡ l.initial.self.lost;
}

abbrev pub decreases-looks : goal.decreases-looks
decreases-looks l = length l.self.looked.items
