-- No record so far is left.
use Rattle.std.proofs.Common.{ℕ, ◌≡◌, ◌<◌, true, Some}
use Rattle.std.specs.Prelude.{slice_get}
use Rattle.tau_pool.specs.Item.{Item}
use Rattle.tau_pool.specs.Items.{is_left}
use Rattle.tau_pool.proofs.pools.Pools.first_left.Given as goal

abbrev pub invariant-loop-place : goal.invariant-loop-place
invariant-loop-place l = (i : ℕ) (x : Item) → i < l.place → slice_get l.self.items i ≡ Some x → is_left x.stage ≡ true → ⊥
