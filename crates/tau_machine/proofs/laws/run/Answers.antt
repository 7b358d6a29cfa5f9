use Rattle.tau_machine.proofs.Results.{run_theorem}
use Rattle.tau_machine.proofs.laws.run.Goals as goal

pub returns : goal.returns
returns c = run_theorem
