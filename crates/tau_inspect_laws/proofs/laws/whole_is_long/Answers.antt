-- The law is a lemma.
use Rattle.tau_inspect_laws.proofs.Whole.{whole_is_long}
use Rattle.tau_inspect_laws.proofs.laws.whole_is_long.Goals as goal

pub returns : goal.returns
returns c = whole_is_long
