use Rattle.tau_core.proofs.Promises.{reported_law}
use Rattle.tau_core.proofs.laws.rows_are_of_the_reported_history.Goals as goal

pub returns : goal.returns
returns c = reported_law
