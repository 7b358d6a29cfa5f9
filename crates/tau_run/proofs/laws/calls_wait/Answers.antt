use Rattle.tau_run.proofs.Waits.{calls_wait}
use Rattle.tau_run.proofs.laws.calls_wait.Goals as goal

pub returns : goal.returns
returns c = calls_wait
