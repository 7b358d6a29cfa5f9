use Rattle.tau_machine.proofs.Results.{let_go_theorem}
use Rattle.tau_machine.proofs.laws.let_go.Goals as goal

pub returns : goal.returns
returns c = let_go_theorem
