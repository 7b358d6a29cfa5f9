-- The law is a lemma.
use Rattle.tau_epoch_laws.proofs.Stays.{redone_after}
use Rattle.tau_epoch_laws.proofs.laws.redone_after.Goals as goal

pub returns : goal.returns
returns c = redone_after
