-- None so far is open.
use Rattle.std.proofs.Common.{◌≡◌, ◌≤◌, ◌<◌, ℕ, false, Some}
use Rattle.std.specs.Prelude.{slice_get}
use Rattle.tau_follow.specs.declared.stage.Stage.{Stage}
use Rattle.tau_follow.specs.Applying.{is_open_stage}
use Rattle.tau_follow.proofs.stage.first_open.Given as goal

abbrev pub invariant-loop-i : goal.invariant-loop-i
invariant-loop-i l = (k : ℕ) (s : Stage) → l.from ≤ k → k < l.i → slice_get l.stages k ≡ Some s → is_open_stage s ≡ false
