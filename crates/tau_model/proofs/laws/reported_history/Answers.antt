-- The law is its theorem.
use Rattle.tau_model.proofs.Theorems.{reported_history_law}
use Rattle.tau_model.proofs.laws.reported_history.Goals as goal

pub returns : goal.returns
returns c = reported_history_law
