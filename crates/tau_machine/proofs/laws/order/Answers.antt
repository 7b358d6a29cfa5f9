use Rattle.tau_machine.proofs.Results.{order_theorem}
use Rattle.tau_machine.proofs.laws.order.Goals as goal

pub returns : goal.returns
returns c = order_theorem
