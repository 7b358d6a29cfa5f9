-- Committed calls in order.
use Rattle.std.specs.Prelude.{ℕ, List}
use Rattle.tau_model.specs.declared.committed.Committed.{Committed}

pub record PlainCommittedList : Type 0 where
  pub items : List Committed
  -- how many more it takes without memory
  pub room : ℕ
