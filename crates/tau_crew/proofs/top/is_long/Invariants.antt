use Rattle.std.proofs.Common.{ℕ, ◌≤◌, ◌<◌, ◌^◌, slice_index}
use Rattle.tau_crew.proofs.top.is_long.Given as goal

abbrev pub invariant-loop-j : goal.invariant-loop-j
invariant-loop-j l = (i : ℕ) → i < l.j → slice_index l.opening.ends i ≤ 2 ^ 61
