use Rattle.tau_commands.proofs.Restoring.{restored_of_any, restores_as_recovery}
use Rattle.tau_commands.proofs.laws.restore_ends_as_recovery.Goals as goal

pub returns-clause-same : goal.returns-clause-same
returns-clause-same c = restores_as_recovery

pub returns-clause-any : goal.returns-clause-any
returns-clause-any c = restored_of_any
