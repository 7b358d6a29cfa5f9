-- What a Gather leads to.
use Rattle.std.specs.Prelude.{ℕ, ◌≤◌, ◌<◌, ◌≡◌, None, slice_get, slice_index}
use Rattle.tau_core.specs.State.{Plain}
use Rattle.tau_core.specs.View.{stop_in}
use Rattle.tau_core.specs.Stands.{Stood}
use Rattle.tau_core.specs.Gather.{Roomy}

-- what the next Gather of the stream wants to know
pub record IsNext (j : ℕ) (p p' : Plain) : Type 0 where
  pub stood : Stood p'
  pub there : j < p'.load.streams
  pub same : p'.load ≡ p.load
  pub going : stop_in (slice_get p'.streams j) ≡ None
  pub up : slice_index p.gathered j ≤ slice_index p'.gathered j
  pub roomy : Roomy j p'
