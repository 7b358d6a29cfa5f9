use Rattle.tau_run.proofs.Results.{run_law}
use Rattle.tau_run.proofs.laws.run_is_there.Goals as goal

pub returns : goal.returns
returns c = run_law
