-- The law is a lemma.
use Rattle.tau_follow_laws.proofs.Closing.{applied_is_least}
use Rattle.tau_follow_laws.proofs.laws.applied_is_least.Goals as goal

pub returns : goal.returns
returns c = applied_is_least
