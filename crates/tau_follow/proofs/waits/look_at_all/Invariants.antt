-- The records of the streams so far are looked at.
use Rattle.std.proofs.Common.{ℕ, ◌<◌, ◌≡◌, Some, List}
use Rattle.std.specs.Prelude.{slice_get}
use Rattle.std.specs.List.{Contains}
use Rattle.tau_follow.specs.declared.stage.Stage.{Stage}
use Rattle.tau_follow.specs.Queue.{spot_at}
use Rattle.tau_follow.proofs.waits.look_at_all.Given as goal

abbrev pub invariant-loop-j : goal.invariant-loop-j
invariant-loop-j l = (k i : ℕ) (ss : List Stage) (s : Stage) → k < l.j → slice_get l.stages k ≡ Some ss → slice_get ss i ≡ Some s → Contains l.looked.items (spot_at k i)
