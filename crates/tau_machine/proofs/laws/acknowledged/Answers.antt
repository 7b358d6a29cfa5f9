use Rattle.tau_machine.proofs.Results.{acknowledged_theorem}
use Rattle.tau_machine.proofs.laws.acknowledged.Goals as goal

pub returns : goal.returns
returns c = acknowledged_theorem
