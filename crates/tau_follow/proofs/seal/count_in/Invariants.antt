-- Those so far, and those that are left.
use Rattle.std.proofs.Common.{ℕ, ◌≡◌, ◌+◌, length, drop}
use Rattle.tau_scan.specs.Epochs.{vector_by}
use Rattle.tau_scan.specs.Taken.{taken_in}
use Rattle.tau_follow.proofs.seal.count_in.Given as goal

abbrev pub invariant-loop-i : goal.invariant-loop-i
invariant-loop-i l = (j : ℕ) → (k : ℕ) × (l.lv ≡ vector_by l.judge k) × (l.count + length (taken_in (vector_by l.judge) j k (drop l.i l.records)) ≡ length (taken_in (vector_by l.judge) j 0 l.records))
