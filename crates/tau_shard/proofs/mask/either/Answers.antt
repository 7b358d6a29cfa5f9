use Rattle.tau_shard.proofs.Masks.{bits_or}
use Rattle.tau_shard.proofs.mask.either.Goals as goal

pub returns : goal.returns
returns c = bits_or c.args.left c.args.right
