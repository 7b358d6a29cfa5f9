-- The records so far are looked at.
use Rattle.std.proofs.Common.{ℕ, ◌<◌, ◌≤◌}
use Rattle.std.specs.List.{Contains}
use Rattle.tau_follow.specs.declared.spot.Spot.{Spot}
use Rattle.tau_follow.specs.Queue.{spot_at}
use Rattle.tau_follow.proofs.waits.look_from.Given as goal

abbrev pub invariant-loop-index : goal.invariant-loop-index
invariant-loop-index l = record {
  kept : (x : Spot) → Contains l.initial.looked.items x → Contains l.looked.items x;
  added : (i : ℕ) → l.from ≤ i → i < l.index → Contains l.looked.items (spot_at l.stream i);
}
