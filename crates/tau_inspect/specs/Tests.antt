-- The tests of an audit, as the code makes them.
use Rattle.std.specs.Prelude.{ℕ, ◌==◌, ◌&&◌, not, Bool}
use Rattle.tau_report.specs.declared.report.Fate.{Fate}
use Rattle.tau_report.specs.declared.report.Fate.TheVariants.{Acked, Unsure, Unrun}

-- a call with this fate stands so often in the order, and has an acknowledgement or none
abbrev pub told_so : Fate → ℕ → Bool → Bool
told_so (Acked r) count acked = (count == 1) && acked
told_so (Unsure r) count acked = (count == 1) && not acked
told_so Unrun count acked = (count == 0) && not acked
