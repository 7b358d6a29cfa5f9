use Rattle.tau_run.proofs.Still.{still_law}
use Rattle.tau_run.proofs.schedule.locking_is_still.Goals as goal

pub returns : goal.returns
returns c = still_law
