-- The law is a lemma.
use Rattle.tau_follow_laws.proofs.Histories.{applied_is_closed}
use Rattle.tau_follow_laws.proofs.laws.applied_is_closed.Goals as goal

pub returns : goal.returns
returns c = applied_is_closed
