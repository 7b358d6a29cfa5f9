-- The law is its theorem.
use Rattle.tau_model.proofs.Theorems.{closed_part_law}
use Rattle.tau_model.proofs.laws.closed_part.Goals as goal

pub returns : goal.returns
returns c = closed_part_law
