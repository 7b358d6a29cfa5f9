use Rattle.tau_core.proofs.Promises.{dependence_law}
use Rattle.tau_core.proofs.laws.dependence_is_covered.Goals as goal

pub returns : goal.returns
returns c = dependence_law
