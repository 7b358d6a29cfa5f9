use Rattle.tau_machine.proofs.Results.{cuts_theorem}
use Rattle.tau_machine.proofs.laws.cuts.Goals as goal

pub returns : goal.returns
returns c = cuts_theorem
