-- The records that were applied after these are opened again, from the last one on.
use Rattle.std.proofs.Common.{true, ◌≡◌, List, length}
use Rattle.tau_record.specs.declared.entry.Placed.{Placed}
use Rattle.tau_follow_laws.specs.Following.{Followed}
use Rattle.tau_follow.specs.declared.spot.Spot.{Spot}
use Rattle.tau_follow.specs.Applying.{AreZero}
use Rattle.tau_follow.specs.Holding.{HasApplied}
use Rattle.tau_follow.specs.Reading.{BeginsWith}
use Rattle.tau_follow.proofs.applier.Applier.reopen.Given as goal

abbrev pub invariant-records : goal.invariant-records
invariant-records l = ((streams : List (List Placed)) (s : Followed) → AreZero l.initial.self.firsts.items → l.initial.self.waits.lost ≡ true → HasApplied streams s l.initial.self → l.count ≡ length s.order → HasApplied streams s l.self)
    × ((spots : List Spot) → BeginsWith spots l.initial.self.order.items → l.count ≡ length spots → BeginsWith spots l.self.order.items) × (l.self.firsts ≡ l.initial.self.firsts) × (l.self.waits ≡ l.initial.self.waits)

abbrev pub decreases-records : goal.decreases-records
decreases-records l = length l.self.order.items
