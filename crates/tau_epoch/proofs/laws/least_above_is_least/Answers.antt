use Rattle.tau_epoch.proofs.Least.{least_some, least_none, none_least}
use Rattle.tau_epoch.proofs.laws.least_above_is_least.Goals as goal

pub returns-clause-some : goal.returns-clause-some
returns-clause-some c = least_some

pub returns-clause-none : goal.returns-clause-none
returns-clause-none c = λ k known. (least_none k known, none_least k known)
