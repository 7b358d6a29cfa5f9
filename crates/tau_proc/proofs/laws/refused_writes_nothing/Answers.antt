use Rattle.tau_proc.proofs.Refusals.{refused_writes_nothing}
use Rattle.tau_proc.proofs.laws.refused_writes_nothing.Goals as goal

pub returns : goal.returns
returns c = refused_writes_nothing
