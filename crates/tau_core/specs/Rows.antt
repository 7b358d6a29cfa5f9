-- The rows that the shards have.
use Rattle.std.specs.Prelude.{ℕ, ◌==◌, ◌≡◌, cond, List, slice_get}
use Rattle.std.specs.List.{filter}
use Rattle.tau_base.specs.declared.value.Key.{Key}
use Rattle.tau_base.specs.declared.value.Value.{Value}
use Rattle.tau_base.specs.declared.value.Value.TheVariants.{Absent}
use Rattle.tau_base.specs.Database.{Db}
use Rattle.tau_base.specs.Shards.{shard_number}
use Rattle.tau_shard.specs.Plain.{PlainShard}
use Rattle.tau_shard.specs.Read.{shard_of}
use Rattle.tau_core.specs.View.{shard_in}

-- those of the rows whose keys belong to the shard
abbrev pub own_rows : ℕ → List (Key × Value) → List (Key × Value)
own_rows i rows = filter (λ r. shard_number r.0 == i) rows

-- the database with the rows of the shard, for the keys that belong to it
abbrev pub with_shard_rows : ℕ → PlainShard → Db → Db
with_shard_rows i s db x = cond (shard_number x == i) ((shard_of s).rows x) (db x)

-- each row as its shard has it
abbrev pub rows_of : List PlainShard → Db
rows_of shards x = (shard_in (slice_get shards (shard_number x))).rows x

-- the database has no row that belongs to the shard
abbrev pub HasNone : ℕ → Db → Type 0
HasNone i db = (x : Key) → shard_number x ≡ i → db x ≡ Absent
