use Rattle.tau_machine.proofs.Results.{contents_theorem}
use Rattle.tau_machine.proofs.laws.contents.Goals as goal

pub returns : goal.returns
returns c = contents_theorem
