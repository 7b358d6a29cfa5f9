use Rattle.std.proofs.Common.{arith, ◌<◌}
use Rattle.tau_shard.proofs.Masks.{bits_without}
use Rattle.tau_shard.proofs.mask.without.Goals as goal

pub returns : goal.returns
returns c = let small : c.args.mask < 4294967296 = omega arith in bits_without c.args.mask c.args.worker small c.requires
