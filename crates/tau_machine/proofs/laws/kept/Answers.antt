use Rattle.tau_machine.proofs.Results.{kept_theorem}
use Rattle.tau_machine.proofs.laws.kept.Goals as goal

pub returns : goal.returns
returns c = kept_theorem
