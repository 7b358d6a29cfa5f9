-- The law is a lemma.
use Rattle.tau_follow_laws.proofs.NeverBad.{never_bad}
use Rattle.tau_follow_laws.proofs.laws.never_bad.Goals as goal

pub returns : goal.returns
returns c = never_bad
