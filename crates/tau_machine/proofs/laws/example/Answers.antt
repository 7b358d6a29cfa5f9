use Rattle.tau_machine.proofs.OnePut.{example_theorem}
use Rattle.tau_machine.proofs.laws.example.Goals as goal

pub returns : goal.returns
returns c = example_theorem
