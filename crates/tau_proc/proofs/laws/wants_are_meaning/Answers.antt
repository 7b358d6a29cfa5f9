use Rattle.tau_proc.proofs.Courses.{wants_are_meaning}
use Rattle.tau_proc.proofs.laws.wants_are_meaning.Goals as goal

pub returns : goal.returns
returns c = wants_are_meaning
