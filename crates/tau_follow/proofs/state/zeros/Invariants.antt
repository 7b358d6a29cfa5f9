-- Only zeros so far.
use Rattle.std.proofs.Common.{ℕ, ◌≡◌, slice_index}
use Rattle.tau_follow.proofs.state.zeros.Given as goal

abbrev pub invariant-loop : goal.invariant-loop
invariant-loop l = (j : ℕ) → slice_index l.list.items j ≡ 0
