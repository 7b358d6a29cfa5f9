-- The law is a lemma.
use Rattle.tau_replay.proofs.Histories.{some_ready}
use Rattle.tau_replay.proofs.laws.some_ready.Goals as goal

pub returns : goal.returns
returns c = some_ready
