use Rattle.tau_run.proofs.Results.{images_law}
use Rattle.tau_run.proofs.laws.images_are_recovered.Goals as goal

pub returns : goal.returns
returns c = images_law
