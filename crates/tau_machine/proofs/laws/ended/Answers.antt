use Rattle.tau_machine.proofs.Results.{ended_theorem}
use Rattle.tau_machine.proofs.laws.ended.Goals as goal

pub returns : goal.returns
returns c = ended_theorem
