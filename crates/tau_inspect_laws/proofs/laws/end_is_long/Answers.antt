-- The law is a lemma.
use Rattle.tau_inspect_laws.proofs.Facts.{end_is_long}
use Rattle.tau_inspect_laws.proofs.laws.end_is_long.Goals as goal

pub returns : goal.returns
returns c = end_is_long
