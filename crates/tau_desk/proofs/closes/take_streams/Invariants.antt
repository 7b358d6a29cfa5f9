use Rattle.std.proofs.Common.{ℕ, ◌+◌, ◌-◌, ◌≤◌, ◌≡◌, Some, length, vec_capacity}
use Rattle.std.specs.Prelude.{slice_get}
use Rattle.std.specs.Slots.{slots_filled, slots_items, slots_len}
use Rattle.tau_core.specs.Plain.{PlainStream}
use Rattle.tau_desk.specs.Taken.{IsStreamAt, IsTakenTo}
use Rattle.tau_desk.proofs.closes.take_streams.Given as goal

abbrev pub invariant-loop-stream : goal.invariant-loop-stream
invariant-loop-stream l = record {
  items : slots_items l.closed.slots ≡ slots_items l.initial.closed.slots;
  len : slots_len l.closed.slots ≡ slots_len l.initial.closed.slots;
  taken : IsTakenTo (l.from + l.stream) (slots_filled l.closed.slots) (slots_len l.closed.slots);
  below : l.stream ≤ l.count;
  rest : (k : ℕ) → l.stream ≤ k → slice_get l.stocks.items k ≡ slice_get l.initial.stocks.items k;
  wide : length l.gathered ≡ l.count;
  many : length l.streams.items ≡ l.stream;
  room : l.count ≤ vec_capacity l.streams;
  each : (j : ℕ) (x : PlainStream) → slice_get l.streams.items j ≡ Some x → IsStreamAt l.initial.stocks.items l.gathered j x;
}

abbrev pub decreases-loop-stream : goal.decreases-loop-stream
decreases-loop-stream l = l.count - l.stream
