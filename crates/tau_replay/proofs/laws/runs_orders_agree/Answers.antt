-- The law is a lemma.
use Rattle.tau_replay.proofs.Histories.{runs_orders_agree}
use Rattle.tau_replay.proofs.laws.runs_orders_agree.Goals as goal

pub returns : goal.returns
returns c = runs_orders_agree
