-- The law is a lemma.
use Rattle.tau_inspect.proofs.Inspected.{uncovered_is_lowest}
use Rattle.tau_inspect.proofs.laws.uncovered_is_lowest.Goals as goal

pub returns : goal.returns
returns c = uncovered_is_lowest
