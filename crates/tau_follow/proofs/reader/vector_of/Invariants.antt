-- The positions so far.
use Rattle.std.proofs.Common.{◌≡◌, ℕ, ◌<◌, length, slice_index}
use Rattle.tau_follow.proofs.reader.vector_of.Given as goal

abbrev pub invariant-loop-j : goal.invariant-loop-j
invariant-loop-j l = (length l.lv ≡ length l.positions) × ((k : ℕ) → k < l.j → slice_index l.lv k ≡ slice_index l.positions k)
