use Rattle.std.proofs.Common.{ℕ, ◌+◌, ◌-◌, ◌≤◌, ◌≡◌, Some, length, vec_capacity}
use Rattle.std.specs.Prelude.{slice_get}
use Rattle.std.specs.Slots.{slots_filled, slots_items, slots_len}
use Rattle.tau_base.specs.declared.limits.TheConstants.{SHARDS}
use Rattle.tau_machine.specs.Reports.{in_turn}
use Rattle.tau_core.specs.Plain.{PlainSeat}
use Rattle.tau_desk.specs.Taken.{IsSeatAt, IsTakenTo, calls_at}
use Rattle.tau_desk.proofs.closes.take_seats.Given as goal

abbrev pub invariant-loop-worker : goal.invariant-loop-worker
invariant-loop-worker l = record {
  items : slots_items l.closed.slots ≡ slots_items l.initial.closed.slots;
  len : slots_len l.closed.slots ≡ slots_len l.initial.closed.slots;
  taken : IsTakenTo (SHARDS + l.worker) (slots_filled l.closed.slots) (slots_len l.closed.slots);
  below : l.worker ≤ l.count;
  rest : (k : ℕ) → l.worker ≤ k → slice_get l.works.items k ≡ slice_get l.initial.works.items k;
  many : length l.seats.items ≡ l.worker;
  room : l.count ≤ vec_capacity l.seats;
  calls : l.committed.items ≡ in_turn l.worker (calls_at l.initial.works.items);
  space : length (in_turn l.count (calls_at l.initial.works.items)) ≤ l.committed.room + length l.committed.items;
  each : (w : ℕ) (x : PlainSeat) → slice_get l.seats.items w ≡ Some x → IsSeatAt (slots_items l.initial.closed.slots) l.initial.works.items w x;
}

abbrev pub decreases-loop-worker : goal.decreases-loop-worker
decreases-loop-worker l = l.count - l.worker
