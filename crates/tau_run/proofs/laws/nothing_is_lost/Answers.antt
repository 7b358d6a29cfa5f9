use Rattle.tau_run.proofs.Results.{lost_law}
use Rattle.tau_run.proofs.laws.nothing_is_lost.Goals as goal

pub returns : goal.returns
returns c = lost_law
