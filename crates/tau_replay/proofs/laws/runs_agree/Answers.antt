-- The law is a lemma.
use Rattle.tau_replay.proofs.Histories.{runs_agree}
use Rattle.tau_replay.proofs.laws.runs_agree.Goals as goal

pub returns : goal.returns
returns c = runs_agree
