use Rattle.tau_machine.proofs.Results.{goes_on_theorem}
use Rattle.tau_machine.proofs.laws.goes_on.Goals as goal

pub returns : goal.returns
returns c = goes_on_theorem
