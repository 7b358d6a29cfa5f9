-- The law is a lemma.
use Rattle.tau_replay.proofs.Histories.{orderly_turns}
use Rattle.tau_replay.proofs.laws.orderly_turns.Goals as goal

pub returns : goal.returns
returns c = orderly_turns
