-- The follower is open, of as many streams.
use Rattle.std.proofs.Common.{◌≡◌}
use Rattle.tau_follow.specs.Follower.{IsOpen, width_of}
use Rattle.tau_follow_runs.proofs.play.are_turns.Given as goal

abbrev pub invariant-loop-index : goal.invariant-loop-index
invariant-loop-index l = IsOpen l.follower × (width_of l.follower ≡ l.n)
