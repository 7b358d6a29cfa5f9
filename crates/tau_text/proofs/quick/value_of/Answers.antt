use Rattle.std.proofs.Common.{ap}
use Rattle.tau_base.specs.declared.value.Value.TheVariants.{Int}
use Rattle.tau_text.proofs.OnePass.{few_signed}
use Rattle.tau_text.proofs.quick.value_of.Goals as goal

pub returns : goal.returns
returns c = ap Int (few_signed c.args.number c.requires)
