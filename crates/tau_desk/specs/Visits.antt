-- What a manager does with a part that it takes and gives back, of which its seat knows nothing afterwards.
use Rattle.std.specs.Prelude.{ℕ, ◌+◌, ◌≤◌, ◌≡◌, Some, List, length, slice_index}
use Rattle.tau_shard.specs.Shard.{Dropped, Shard}
use Rattle.tau_core.specs.Pieces.{Names}
use Rattle.tau_core.specs.State.{Plain}
use Rattle.tau_rule.specs.Rule.{anchor_part}
use Rattle.tau_rule.specs.Steps.{Agrees, shard_in}
use Rattle.tau_rule.specs.declared.part.Part.{Part}
use Rattle.tau_desk.specs.Seats.{PlainManagerSeat}
use Rattle.tau_desk.specs.Works.{anchor_in}

-- the manager took a shard, and dropped the free entries there that are covered by the positions which it has seen persisted
pub record Sweeps (origin : Plain) (s : PlainManagerSeat) (k : ℕ) : Type 0 where
  pub part_taken : Part
  pub agrees : Agrees origin s.me.0 k part_taken
  pub before : Shard
  pub was : shard_in part_taken ≡ Some before
  pub after : Shard
  pub dropped : Dropped s.seen before after

-- the manager took the anchor part of its stream, and left the newest anchor there that it placed
pub record Publishes (origin : Plain) (s : PlainManagerSeat) : Type 0 where
  pub part_taken : Part
  pub agrees : Agrees origin s.me.0 (anchor_part origin.load s.stream) part_taken
  pub before : ℕ × List ℕ
  pub was : anchor_in part_taken ≡ Some before
  pub after : ℕ × List ℕ
  pub up : before.0 ≤ after.0
  pub named : Names origin.load s.stream s.stock.anchors after.0 after.1
  pub newest : 1 ≤ length s.stock.anchors → after.0 ≡ slice_index origin.load.opening.anchors.items s.stream + length s.stock.anchors
