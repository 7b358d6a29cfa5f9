-- Each key belongs to one of the shards.
use Rattle.std.proofs.Common.{◌<◌, arith}
use Rattle.std.specs.Prelude.{ℤ, pos, negsuc, ◌+ℤ◌, ◌*ℤ◌, nat_abs}
use Rattle.std.specs.Int.{int_rem_euclid}
use Rattle.tau_base.specs.declared.limits.TheConstants.{SHARDS}
use Rattle.tau_base.specs.declared.value.Key.{Key}
use Rattle.tau_base.specs.Shards.{shard_number}

remainder_small : (z : ℤ) → nat_abs (int_rem_euclid z (pos 64)) < 64
remainder_small (pos a) = omega arith
remainder_small (negsuc a) = omega arith

pub shard_small : (x : Key) → shard_number x < SHARDS
shard_small x = remainder_small (pos 31 *ℤ pos x.table +ℤ x.row)
