use Rattle.tau_step.proofs.RunEnds.{ends_law}
use Rattle.tau_step.proofs.laws.whole_runs_end.Goals as goal

pub returns : goal.returns
returns c = ends_law
