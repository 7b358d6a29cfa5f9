-- The law is a lemma.
use Rattle.tau_scan.proofs.Listed.{taken_are_listed}
use Rattle.tau_scan.proofs.laws.taken_are_listed.Goals as goal

pub returns : goal.returns
returns c = taken_are_listed
