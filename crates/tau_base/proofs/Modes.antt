-- What every format keeps to.
use Rattle.std.proofs.Common.{◌≤◌, arith}
use Rattle.tau_base.specs.declared.format.Format.{Format}
use Rattle.tau_base.specs.declared.format.Format.TheVariants.{One, Two}
use Rattle.tau_base.specs.declared.limits.TheConstants.{MAX_STREAMS}
use Rattle.tau_base.specs.Modes.{most_streams}

-- no format has room for more streams than there may be
pub streams_most : (f : Format) → most_streams f ≤ MAX_STREAMS
streams_most One = omega arith
streams_most Two = omega arith
