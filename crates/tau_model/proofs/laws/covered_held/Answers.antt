-- The law is its theorem.
use Rattle.tau_model.proofs.Theorems.{covered_held_law}
use Rattle.tau_model.proofs.laws.covered_held.Goals as goal

pub returns : goal.returns
returns c = covered_held_law
