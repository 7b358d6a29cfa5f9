-- What the least epoch above a number is, without the recursion.
use Rattle.std.specs.Prelude.{ℕ, ◌≤◌, ◌<◌, List}
use Rattle.std.specs.List.{Contains}
use Rattle.tau_epoch.specs.Epochs.{Mark}

-- a known epoch with the smallest number above k
pub record IsLeast (k : ℕ) (known : List Mark) (m : Mark) : Type 0 where
  pub there : Contains known m
  pub above : k < m.number
  pub least : (x : Mark) → Contains known x → k < x.number → m.number ≤ x.number
