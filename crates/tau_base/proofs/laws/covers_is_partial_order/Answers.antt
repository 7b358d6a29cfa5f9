use Rattle.tau_base.proofs.Vectors.{at_most_itself, at_most_trans, at_most_antisymmetric}
use Rattle.tau_base.proofs.laws.covers_is_partial_order.Goals as goal

pub returns-clause-itself : goal.returns-clause-itself
returns-clause-itself c = at_most_itself

pub returns-clause-transitive : goal.returns-clause-transitive
returns-clause-transitive c = at_most_trans

pub returns-clause-antisymmetric : goal.returns-clause-antisymmetric
returns-clause-antisymmetric c = at_most_antisymmetric
