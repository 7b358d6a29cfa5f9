-- What a state shows beside the hands of its workers.
use Rattle.std.specs.Prelude.{ℕ, List}
use Rattle.tau_base.specs.declared.value.Key.{Key}
use Rattle.tau_base.specs.declared.value.Value.{Value}

-- of each key its row and its two vectors, those of its entry or else its floor; the placed ends and the persisted positions
pub record Sight : Type 0 where
  pub row : Key → Value
  pub write_lv : Key → List ℕ
  pub read_lv : Key → List ℕ
  pub ends : List ℕ
  pub plv : List ℕ
