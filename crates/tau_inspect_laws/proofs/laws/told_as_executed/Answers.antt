-- The law is a lemma.
use Rattle.tau_inspect_laws.proofs.Told.{told_as_executed}
use Rattle.tau_inspect_laws.proofs.laws.told_as_executed.Goals as goal

pub returns : goal.returns
returns c = told_as_executed
