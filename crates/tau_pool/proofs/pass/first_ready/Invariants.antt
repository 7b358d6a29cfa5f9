-- No record so far is ready.
use Rattle.std.proofs.Common.{ℕ, ◌≡◌, ◌<◌, true, Some}
use Rattle.std.specs.Prelude.{slice_get}
use Rattle.tau_base.specs.Vectors.{AtMost}
use Rattle.tau_pool.specs.Item.{Item}
use Rattle.tau_pool.specs.Items.{is_waiting}
use Rattle.tau_pool.proofs.pass.first_ready.Given as goal

abbrev pub invariant-loop-place : goal.invariant-loop-place
invariant-loop-place l = (i : ℕ) (x : Item) → i < l.place → slice_get l.items i ≡ Some x → is_waiting x.stage ≡ true → AtMost x.dep l.rlv → ⊥
