use Rattle.tau_run.proofs.Results.{ends_law}
use Rattle.tau_run.proofs.laws.ends_well.Goals as goal

pub returns : goal.returns
returns c = ends_law
