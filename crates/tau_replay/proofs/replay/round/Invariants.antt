-- Less is left, or each worker so far had nothing in flight and took nothing.
use Rattle.std.proofs.Common.{ℕ, List, ◌≡◌, ◌<◌, ◌≤◌, ◌⊎◌}
use Rattle.std.specs.Prelude.{Some, slice_get}
use Rattle.tau_pool.specs.declared.item.Job.{Job}
use Rattle.tau_model.specs.Store.{database}
use Rattle.tau_replay.specs.Followed.{FollowedOn, workers_from}
use Rattle.tau_replay.specs.Way.{IsOnCourse, left_of}
use Rattle.tau_replay.proofs.Following.{Rounding}
use Rattle.tau_replay.proofs.replay.round.Given as goal

abbrev pub invariant-loop-worker : goal.invariant-loop-worker
invariant-loop-worker g l = record {
  going : IsOnCourse l.log g.course l.replay;
  less : left_of l.replay ≤ left_of l.initial.replay;
  followed : (turns : List ℕ) → FollowedOn l.log g.course turns l.initial.replay → Rounding l.log g.course turns (workers_from l.from) l.worker l.replay.pools l.replay.hands.items (database l.replay.store);
  some : (left_of l.replay < left_of l.initial.replay) ⊎ ((l.replay.hands.items ≡ l.initial.replay.hands.items) × ((w : ℕ) (job : Job) → l.from ≤ w → w < l.worker → slice_get l.initial.replay.hands.items w ≡ Some (Some job) → ⊥));
}

abbrev pub ghost-turn : goal.ghost-turn
ghost-turn g a = g.course
