use Rattle.tau_core.proofs.Promises.{acknowledged_law}
use Rattle.tau_core.proofs.laws.acknowledged_calls_survive.Goals as goal

pub returns : goal.returns
returns c = acknowledged_law
