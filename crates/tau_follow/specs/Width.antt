-- How many streams there are.
use Rattle.std.specs.Prelude.{ℕ}
use Rattle.tau_base.specs.declared.format.Format.{Format}

-- the format of a log, and the number of its streams
pub record Streams : Type 0 where
  pub format : Format
  pub n : ℕ
