use Rattle.tau_proc.proofs.Sound.{meaning_sound}
use Rattle.tau_proc.proofs.laws.reads_determine.Goals as goal

pub returns : goal.returns
returns c = meaning_sound
