use Rattle.tau_core.proofs.Promises.{committed_law}
use Rattle.tau_core.proofs.laws.committed_calls_are_of_the_run.Goals as goal

pub returns : goal.returns
returns c = committed_law
