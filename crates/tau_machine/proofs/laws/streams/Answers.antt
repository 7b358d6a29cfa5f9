use Rattle.tau_machine.proofs.Results.{streams_theorem}
use Rattle.tau_machine.proofs.laws.streams.Goals as goal

pub returns : goal.returns
returns c = streams_theorem
