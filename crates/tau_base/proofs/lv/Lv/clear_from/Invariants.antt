use Rattle.std.proofs.Common.{◌≡◌, ℕ, ◌<◌, ◌≤◌, length, slice_index}
use Rattle.tau_base.proofs.lv.Lv.clear_from.Given as goal

abbrev pub invariant-loop-j : goal.invariant-loop-j
invariant-loop-j l =
    (length l.self ≡ length l.fn.self)
    × ((k : ℕ) → k < l.from → slice_index l.self k ≡ slice_index l.fn.self k)
    × ((k : ℕ) → l.from ≤ k → k < l.j → slice_index l.self k ≡ 0)
