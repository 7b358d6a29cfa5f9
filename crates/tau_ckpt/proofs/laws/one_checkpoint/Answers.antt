use Rattle.tau_ckpt.proofs.Parts.{held_once}
use Rattle.tau_ckpt.proofs.laws.one_checkpoint.Goals as goal

pub returns : goal.returns
returns c = held_once
