use Rattle.tau_machine.proofs.Results.{reported_theorem}
use Rattle.tau_machine.proofs.laws.reported.Goals as goal

pub returns : goal.returns
returns c = reported_theorem
