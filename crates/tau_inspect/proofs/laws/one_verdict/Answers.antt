-- The law is a lemma.
use Rattle.tau_inspect.proofs.OneVerdict.{one_verdict}
use Rattle.tau_inspect.proofs.laws.one_verdict.Goals as goal

pub returns : goal.returns
returns c = one_verdict
