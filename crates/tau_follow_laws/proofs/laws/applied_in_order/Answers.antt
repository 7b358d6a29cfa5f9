-- The law is a lemma.
use Rattle.tau_follow_laws.proofs.Follows.{applied_in_order}
use Rattle.tau_follow_laws.proofs.laws.applied_in_order.Goals as goal

pub returns : goal.returns
returns c = applied_in_order
