-- The law is its theorem.
use Rattle.tau_model.proofs.Theorems.{orderly_redo_law}
use Rattle.tau_model.proofs.laws.orderly_redo.Goals as goal

pub returns : goal.returns
returns c = orderly_redo_law
