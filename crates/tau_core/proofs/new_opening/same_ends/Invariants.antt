use Rattle.std.proofs.Common.{ℕ, ◌<◌, ◌≡◌, length}
use Rattle.std.specs.Prelude.{slice_index}
use Rattle.tau_core.proofs.new_opening.same_ends.Given as goal

abbrev pub invariant-loop-j : goal.invariant-loop-j
invariant-loop-j l = (length l.ends ≡ l.n) × ((k : ℕ) → k < l.j → slice_index l.ends k ≡ l.end)
