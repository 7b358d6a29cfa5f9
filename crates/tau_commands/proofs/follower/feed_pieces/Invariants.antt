use Rattle.std.proofs.Common.{◌≡◌, ◌≤◌, ◌-◌, List, length}
use Rattle.tau_follow_laws.specs.Feeding.{Piece}
use Rattle.tau_follow.specs.Follower.{IsOpen, width_of}
use Rattle.std.specs.Prelude.{string_bytes}
use Rattle.tau_commands.specs.Following.{applied_line}
use Rattle.tau_commands.specs.Sources.{ArePieces}
use Rattle.tau_commands.proofs.Going.{IsFedTo}
use Rattle.tau_commands.proofs.follower.feed_pieces.Given as goal

abbrev pub invariant-loop-piece : goal.invariant-loop-piece
invariant-loop-piece l = record {
  within : l.at ≤ length l.text;
  opened : IsOpen l.follower;
  width : width_of l.follower ≡ l.streams;
  told : string_bytes l.told.line ≡ applied_line l.told.count;
  fed : (pieces : List Piece) → ArePieces l.streams pieces l.text → IsFedTo l.streams l.text l.at l.lines.items l.follower pieces;
}

abbrev pub decreases-loop-piece : goal.decreases-loop-piece
decreases-loop-piece l = length l.text - l.at
