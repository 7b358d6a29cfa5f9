use Rattle.tau_core.proofs.Promises.{cuts_law}
use Rattle.tau_core.proofs.laws.cuts_are_closed.Goals as goal

pub returns : goal.returns
returns c = cuts_law
