-- A text has one first bad line.
use Rattle.tau_inspect.proofs.OneBad.{one_first_bad}
use Rattle.tau_inspect.proofs.laws.one_first_bad.Goals as goal

pub returns : goal.returns
returns c = λ tables n calls bytes number other x y. one_first_bad tables n calls bytes number other x y
