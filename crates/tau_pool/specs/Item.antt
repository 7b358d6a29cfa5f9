-- A taken record.
use Rattle.std.specs.Prelude.{ℕ, List}
use Rattle.tau_pool.specs.declared.item.Stage.{Stage}

-- a taken record among all of the log, by stream and place: its number among the records of its stream, where it starts, its vector and where it stands
pub record Item : Type 0 where
  pub stream : ℕ
  pub index : ℕ
  pub start : ℕ
  pub dep : List ℕ
  pub stage : Stage
