use Rattle.std.proofs.Common.{ℕ, ◌+◌, ◌*◌, ◌<◌, ◌≡◌, length, slice_index}
use Rattle.std.specs.Slots.{slots_items}
use Rattle.tau_desk.proofs.closes.positions.Given as goal

abbrev pub invariant-loop-j : goal.invariant-loop-j
invariant-loop-j l = record {
  count : length l.lv ≡ l.streams;
  each : (k : ℕ) → k < l.j → slice_index l.lv k ≡ slice_index (slots_items l.closed.words) (8 * (l.from + k));
}
