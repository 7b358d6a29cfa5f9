use Rattle.tau_run.proofs.Told.{told_is_whole}
use Rattle.tau_run.proofs.laws.told_is_whole.Goals as goal

pub returns : goal.returns
returns c = told_is_whole
