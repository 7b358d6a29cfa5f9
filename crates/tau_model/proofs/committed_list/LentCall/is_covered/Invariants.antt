use Rattle.std.proofs.Common.{ℕ, ◌<◌, ◌≤◌, slice_index}
use Rattle.tau_model.proofs.committed_list.LentCall.is_covered.Given as goal

abbrev pub invariant-loop-j : goal.invariant-loop-j
invariant-loop-j l = (k : ℕ) → k < l.j → slice_index l.self.lv k ≤ slice_index l.positions k
