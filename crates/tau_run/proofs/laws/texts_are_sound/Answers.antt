use Rattle.tau_run.proofs.Sources.{sound_load}
use Rattle.tau_run.proofs.laws.texts_are_sound.Goals as goal

pub returns : goal.returns
returns c = sound_load
