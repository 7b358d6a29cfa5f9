use Rattle.std.proofs.Common.{ℕ, ◌-◌, ◌≤◌, ◌≡◌, Some, length, slice_get, vec_capacity}
use Rattle.std.specs.Slots.{slots_filled, slots_items, slots_len}
use Rattle.tau_base.specs.declared.limits.TheConstants.{SHARDS}
use Rattle.tau_shard.specs.Plain.{PlainShard}
use Rattle.tau_desk.specs.Taken.{IsShardAt, IsTakenTo}
use Rattle.tau_desk.proofs.closes.take_shards.Given as goal

abbrev pub invariant-loop-shard : goal.invariant-loop-shard
invariant-loop-shard l = record {
  items : slots_items l.closed.slots ≡ slots_items l.initial.closed.slots;
  len : slots_len l.closed.slots ≡ slots_len l.initial.closed.slots;
  taken : IsTakenTo l.shard (slots_filled l.closed.slots) (slots_len l.closed.slots);
  below : l.shard ≤ SHARDS;
  count : length l.shards.items ≡ l.shard;
  room : SHARDS ≤ vec_capacity l.shards;
  each : (k : ℕ) (x : PlainShard) → slice_get l.shards.items k ≡ Some x → IsShardAt (slots_items l.initial.closed.slots) k x;
}

abbrev pub decreases-loop-shard : goal.decreases-loop-shard
decreases-loop-shard l = SHARDS - l.shard
