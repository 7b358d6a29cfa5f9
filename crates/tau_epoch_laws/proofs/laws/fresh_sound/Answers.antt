-- The law is a lemma.
use Rattle.tau_epoch_laws.proofs.Fresh.{fresh_sound}
use Rattle.tau_epoch_laws.proofs.laws.fresh_sound.Goals as goal

pub returns : goal.returns
returns c = fresh_sound
