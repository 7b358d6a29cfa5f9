-- The law is a lemma.
use Rattle.tau_epoch_laws.proofs.Stays.{stays_sound}
use Rattle.tau_epoch_laws.proofs.laws.stays_sound.Goals as goal

pub returns : goal.returns
returns c = stays_sound
