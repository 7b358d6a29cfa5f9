use Rattle.tau_commands.proofs.FedAll.{ends_as_recovery}
use Rattle.tau_commands.proofs.laws.follower_ends_as_recovery.Goals as goal

pub returns : goal.returns
returns c = ends_as_recovery
