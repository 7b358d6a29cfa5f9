use Rattle.tau_shard.proofs.Masks.{bits_with}
use Rattle.tau_shard.proofs.mask.with.Goals as goal

pub returns : goal.returns
returns c = bits_with c.args.mask c.args.worker c.requires
