use Rattle.tau_run.proofs.LateSteps.{ends_in}
use Rattle.tau_run.proofs.schedule.ends_in_locking.Goals as goal

pub returns : goal.returns
returns c = λ set m n style turns opening x s. ends_in set m n style turns opening x s
