use Rattle.tau_run.proofs.Lives.{left_out}
use Rattle.tau_run.proofs.laws.left_out_for_good.Goals as goal

pub returns : goal.returns
returns c = left_out
