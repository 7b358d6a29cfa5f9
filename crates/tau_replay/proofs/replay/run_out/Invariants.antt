-- The workers are on their way, and less is left after each round.
use Rattle.std.proofs.Common.{ℕ, List, ◌++◌}
use Rattle.tau_replay.specs.Followed.{FollowedOn, rounds}
use Rattle.tau_replay.specs.Way.{IsOnCourse, left_of}
use Rattle.tau_replay.proofs.replay.run_out.Given as goal

abbrev pub invariant-rounds : goal.invariant-rounds
invariant-rounds g l = record {
  going : IsOnCourse l.log g.course l.replay;
  followed : (turns : List ℕ) → FollowedOn l.log g.course turns l.initial.replay → (more : ℕ) × FollowedOn l.log g.course (turns ++ rounds more) l.replay;
}

abbrev pub decreases-rounds : goal.decreases-rounds
decreases-rounds g l = left_of l.replay

abbrev pub ghost-next_round : goal.ghost-next_round
ghost-next_round g a = g.course
