use Rattle.std.proofs.Common.{◌≡◌, ℕ, ◌<◌, ◌≤◌, min, length, slice_index}
use Rattle.tau_epoch.proofs.lowered.Given as goal

abbrev pub invariant-loop-j : goal.invariant-loop-j
invariant-loop-j l =
    (length l.out ≡ length l.narrow)
    × ((k : ℕ) → k < l.j → slice_index l.out k ≡ min (slice_index l.narrow k) (slice_index l.wide k))
    × ((k : ℕ) → l.j ≤ k → slice_index l.out k ≡ slice_index l.narrow k)
