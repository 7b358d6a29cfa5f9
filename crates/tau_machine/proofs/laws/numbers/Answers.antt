use Rattle.tau_machine.proofs.Results.{numbers_theorem}
use Rattle.tau_machine.proofs.laws.numbers.Goals as goal

pub returns : goal.returns
returns c = numbers_theorem
