use Rattle.tau_core.proofs.Promises.{numbers_law}
use Rattle.tau_core.proofs.laws.numbers_are_of_the_reported_history.Goals as goal

pub returns : goal.returns
returns c = numbers_law
