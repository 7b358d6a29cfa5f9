use Rattle.tau_core.proofs.Promises.{light_law}
use Rattle.tau_core.proofs.laws.vectors_stay_light.Goals as goal

pub returns : goal.returns
returns c = light_law
