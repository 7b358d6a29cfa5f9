-- The law is a lemma.
use Rattle.tau_inspect.proofs.Named.{names_are_known}
use Rattle.tau_inspect.proofs.laws.names_are_known.Goals as goal

pub returns : goal.returns
returns c = names_are_known
