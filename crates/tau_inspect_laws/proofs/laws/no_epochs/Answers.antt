-- The law is a lemma.
use Rattle.tau_inspect_laws.proofs.Unmarked.{no_epochs}
use Rattle.tau_inspect_laws.proofs.laws.no_epochs.Goals as goal

pub returns : goal.returns
returns c = no_epochs
