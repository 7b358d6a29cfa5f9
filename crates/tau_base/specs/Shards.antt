-- Which shard of the lock table a key belongs to.
use Rattle.std.specs.Prelude.{ℕ, pos, ◌+ℤ◌, ◌*ℤ◌, nat_abs}
use Rattle.std.specs.Int.{int_rem_euclid}
use Rattle.tau_base.specs.declared.limits.TheConstants.{SHARDS}
use Rattle.tau_base.specs.declared.value.Key.{Key}

-- (31 * table + row) mod SHARDS over whole numbers
abbrev pub shard_number : Key → ℕ
shard_number key = nat_abs (int_rem_euclid (pos 31 *ℤ pos key.table +ℤ key.row) (pos SHARDS))
