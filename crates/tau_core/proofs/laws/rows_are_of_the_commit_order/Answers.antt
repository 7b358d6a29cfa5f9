use Rattle.tau_core.proofs.Promises.{rows_law}
use Rattle.tau_core.proofs.laws.rows_are_of_the_commit_order.Goals as goal

pub returns : goal.returns
returns c = rows_law
