-- The law is a lemma.
use Rattle.tau_inspect_laws.proofs.Verdicts.{verdicts_of_run}
use Rattle.tau_inspect_laws.proofs.laws.verdicts_of_run.Goals as goal

pub returns : goal.returns
returns c = verdicts_of_run
