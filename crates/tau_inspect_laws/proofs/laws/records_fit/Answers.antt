-- The law is a lemma.
use Rattle.tau_inspect_laws.proofs.Fitting.{records_fit}
use Rattle.tau_inspect_laws.proofs.laws.records_fit.Goals as goal

pub returns : goal.returns
returns c = records_fit
