-- The law is its theorem.
use Rattle.tau_model.proofs.Theorems.{cut_closed_law}
use Rattle.tau_model.proofs.laws.cut_closed.Goals as goal

pub returns : goal.returns
returns c = cut_closed_law
