use Rattle.std.proofs.Common.{◌≡◌, ℕ, ◌<◌, ◌≤◌, max, length, slice_index}
use Rattle.tau_base.proofs.lv.Lv.raise_by_narrower.Given as goal

abbrev pub invariant-loop-j : goal.invariant-loop-j
invariant-loop-j l =
    (length l.self ≡ max (length l.fn.self) (length l.other))
    × ((k : ℕ) → k < l.j → slice_index l.self k ≡ max (slice_index l.fn.self k) (slice_index l.other k))
    × ((k : ℕ) → l.j ≤ k → slice_index l.self k ≡ slice_index l.fn.self k)
