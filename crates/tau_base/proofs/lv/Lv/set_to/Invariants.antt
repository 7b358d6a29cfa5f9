use Rattle.std.proofs.Common.{◌≡◌, ℕ, ◌<◌, length, slice_index}
use Rattle.tau_base.proofs.lv.Lv.set_to.Given as goal

abbrev pub invariant-loop-j : goal.invariant-loop-j
invariant-loop-j l = (length l.self ≡ length l.positions) × ((k : ℕ) → k < l.j → slice_index l.self k ≡ slice_index l.positions k)
