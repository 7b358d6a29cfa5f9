use Rattle.tau_machine.proofs.Results.{committed_theorem}
use Rattle.tau_machine.proofs.laws.committed.Goals as goal

pub returns : goal.returns
returns c = committed_theorem
