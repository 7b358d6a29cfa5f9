use Rattle.std.proofs.Common.{ℕ, ◌≡◌, [], length}
use Rattle.std.specs.Prelude.{Some, slice_get}
use Rattle.tau_shard.specs.Plain.{PlainShard}
use Rattle.tau_core.specs.Opens.{IsShardAtRest}
use Rattle.tau_core.proofs.parts.empty_shards.Given as goal

abbrev pub invariant-loop-shard : goal.invariant-loop-shard
invariant-loop-shard l = record {
  count : length l.all.items ≡ l._shard;
  each : (i : ℕ) (s : PlainShard) → slice_get l.all.items i ≡ Some s → IsShardAtRest l.floor [] i s;
}
