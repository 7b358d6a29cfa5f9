-- The law is a lemma.
use Rattle.tau_replay.proofs.Tangles.{tangled_has_no_order}
use Rattle.tau_replay.proofs.laws.tangled_has_no_order.Goals as goal

pub returns : goal.returns
returns c = tangled_has_no_order
