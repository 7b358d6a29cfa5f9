use Rattle.tau_machine.proofs.Results.{posted_theorem}
use Rattle.tau_machine.proofs.laws.posted.Goals as goal

pub returns : goal.returns
returns c = posted_theorem
