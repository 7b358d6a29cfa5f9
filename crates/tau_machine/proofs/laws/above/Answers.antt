use Rattle.tau_machine.proofs.Floors.{above_theorem}
use Rattle.tau_machine.proofs.laws.above.Goals as goal

pub returns : goal.returns
returns c = above_theorem
