use Rattle.tau_machine.proofs.Results.{own_row_theorem}
use Rattle.tau_machine.proofs.laws.own_row.Goals as goal

pub returns : goal.returns
returns c = own_row_theorem
