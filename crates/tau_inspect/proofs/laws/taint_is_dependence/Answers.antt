-- The law is a lemma.
use Rattle.tau_inspect.proofs.Taints.{taint_is_dependence}
use Rattle.tau_inspect.proofs.laws.taint_is_dependence.Goals as goal

pub returns : goal.returns
returns c = taint_is_dependence
