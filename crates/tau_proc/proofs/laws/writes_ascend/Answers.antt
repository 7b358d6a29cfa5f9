use Rattle.tau_proc.proofs.Ascending.{writes_ascend_law}
use Rattle.tau_proc.proofs.laws.writes_ascend.Goals as goal

pub returns : goal.returns
returns c = writes_ascend_law
