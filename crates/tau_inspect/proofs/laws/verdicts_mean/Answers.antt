-- The law is a lemma.
use Rattle.tau_inspect.proofs.Verdicts.{verdicts_mean}
use Rattle.tau_inspect.proofs.laws.verdicts_mean.Goals as goal

pub returns : goal.returns
returns c = verdicts_mean
