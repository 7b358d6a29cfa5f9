use Rattle.tau_machine.proofs.Results.{rows_theorem}
use Rattle.tau_machine.proofs.laws.rows.Goals as goal

pub returns : goal.returns
returns c = rows_theorem
