-- Which calls of the order depend on an updating call that is not taken, place by place.
use Rattle.std.specs.Prelude.{ℕ, ◌≡◌, ◌↔◌, Bool, true, false, List, length, Some, slice_get, slice_index_or}
use Rattle.tau_model.specs.History.{Numbered, Act}
use Rattle.tau_inspect.specs.Taint.{DependsOnMissing}
use Rattle.tau_inspect.specs.Audit.{Case, acts, is_taken}

pub record KnowsTaint (c : Case) (tainted : List Bool) : Type 0 where
  pub long : length tainted ≡ length c.report.order
  pub tells : (i : ℕ) (x : Act Numbered) → slice_get (acts c) i ≡ Some x → (slice_index_or tainted i false ≡ true) ↔ DependsOnMissing (is_taken c) (acts c) x
