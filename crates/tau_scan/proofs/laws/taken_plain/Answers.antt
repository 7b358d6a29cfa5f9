-- The law is a lemma.
use Rattle.tau_scan.proofs.Listed.{taken_plain}
use Rattle.tau_scan.proofs.laws.taken_plain.Goals as goal

pub returns : goal.returns
returns c = taken_plain
