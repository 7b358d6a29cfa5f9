-- The law is its theorem.
use Rattle.tau_model.proofs.Theorems.{same_conflicts_law}
use Rattle.tau_model.proofs.laws.same_conflicts.Goals as goal

pub returns : goal.returns
returns c = same_conflicts_law
