-- The law is its theorem.
use Rattle.tau_model.proofs.Theorems.{cut_reported_law}
use Rattle.tau_model.proofs.laws.cut_reported.Goals as goal

pub returns : goal.returns
returns c = cut_reported_law
