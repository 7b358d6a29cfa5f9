use Rattle.tau_run.proofs.Results.{history_law}
use Rattle.tau_run.proofs.laws.run_is_history.Goals as goal

pub returns : goal.returns
returns c = history_law
