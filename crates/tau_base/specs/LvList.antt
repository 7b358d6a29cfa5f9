-- Vectors in order.
use Rattle.std.specs.Prelude.{ℕ, List}

pub record PlainLvList : Type 0 where
  pub items : List (List ℕ)
  -- how many more it takes without memory
  pub room : ℕ
