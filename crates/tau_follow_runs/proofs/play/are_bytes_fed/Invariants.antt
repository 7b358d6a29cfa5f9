-- The follower is open, of as many streams.
use Rattle.std.proofs.Common.{◌≡◌}
use Rattle.tau_follow.specs.Follower.{IsOpen, width_of}
use Rattle.tau_follow_runs.proofs.play.are_bytes_fed.Given as goal

abbrev pub invariant-loop-name : goal.invariant-loop-name
invariant-loop-name l =
    (goal.iterator-loop-name).can_next l.name-iterator ×
    (goal.iterator-loop-name).is_finite l.name-iterator ×
    IsOpen l.follower ×
    (width_of l.follower ≡ l.n)
