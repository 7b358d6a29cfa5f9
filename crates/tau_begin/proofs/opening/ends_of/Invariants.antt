-- The ends of the streams so far, and zeros.
use Rattle.std.proofs.Common.{ℕ, ◌≡◌, ◌<◌, length}
use Rattle.std.specs.Prelude.{slice_index, slice_get, Some}
use Rattle.tau_open.specs.declared.start.StreamStart.{StreamStart}
use Rattle.tau_open.specs.Reopening.{started}
use Rattle.tau_begin.proofs.opening.ends_of.Given as goal

abbrev pub invariant-loop-j : goal.invariant-loop-j
invariant-loop-j l = ((i : ℕ) (p : StreamStart) → i < l.j → slice_get l.starts i ≡ Some p → slice_index l.ends i ≡ length (started p)) × (length l.ends ≡ length l.starts)
