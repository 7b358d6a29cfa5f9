use Rattle.tau_machine.proofs.Results.{light_theorem}
use Rattle.tau_machine.proofs.laws.light.Goals as goal

pub returns : goal.returns
returns c = light_theorem
