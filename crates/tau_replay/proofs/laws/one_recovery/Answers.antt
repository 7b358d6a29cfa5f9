-- The law is a lemma.
use Rattle.tau_replay.proofs.Histories.{one_recovery}
use Rattle.tau_replay.proofs.laws.one_recovery.Goals as goal

pub returns : goal.returns
returns c = one_recovery
