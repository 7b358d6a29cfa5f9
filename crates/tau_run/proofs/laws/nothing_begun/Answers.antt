use Rattle.tau_run.proofs.NotBegun.{nothing_begun}
use Rattle.tau_run.proofs.laws.nothing_begun.Goals as goal

pub returns : goal.returns
returns c = nothing_begun
