-- The worker has nothing in flight, and less is left after each record.
use Rattle.std.proofs.Common.{◌≡◌}
use Rattle.std.specs.Prelude.{Some, None, slice_get}
use Rattle.tau_replay.specs.Sound.{IsSound}
use Rattle.tau_replay.specs.Way.{left_of}
use Rattle.tau_replay.proofs.alone.run_alone.Given as goal

abbrev pub invariant-records : goal.invariant-records
invariant-records g l = record {
  sound : IsSound l.log l.replay;
  idle : slice_get l.replay.hands.items 0 ≡ Some None;
}

abbrev pub decreases-records : goal.decreases-records
decreases-records g l = left_of l.replay
