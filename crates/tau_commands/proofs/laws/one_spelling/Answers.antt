use Rattle.tau_commands.proofs.FedAll.{one_spelling}
use Rattle.tau_commands.proofs.laws.one_spelling.Goals as goal

pub returns : goal.returns
returns c = one_spelling
