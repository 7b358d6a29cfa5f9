use Rattle.tau_commands.proofs.FedAll.{one_following}
use Rattle.tau_commands.proofs.laws.one_following.Goals as goal

pub returns : goal.returns
returns c = one_following
