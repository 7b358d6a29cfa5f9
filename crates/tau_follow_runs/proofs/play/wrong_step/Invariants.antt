-- The follower is open, of as many streams.
use Rattle.std.proofs.Common.{◌≡◌}
use Rattle.tau_follow.specs.Follower.{IsOpen, width_of}
use Rattle.tau_follow_runs.proofs.play.wrong_step.Given as goal

abbrev pub invariant-loop-line : goal.invariant-loop-line
invariant-loop-line l =
    (goal.iterator-loop-line).can_next l.line-iterator ×
    (goal.iterator-loop-line).is_finite l.line-iterator ×
    IsOpen l.follower ×
    (width_of l.follower ≡ l.n)
