-- The law is a lemma.
use Rattle.tau_replay.proofs.Tangles.{tangled_alike}
use Rattle.tau_replay.proofs.laws.tangled_alike.Goals as goal

pub returns : goal.returns
returns c = tangled_alike
