use Rattle.tau_run.proofs.Results.{acked_law}
use Rattle.tau_run.proofs.laws.acked_is_taken.Goals as goal

pub returns : goal.returns
returns c = acked_law
