use Rattle.tau_record.proofs.Appending.{epochs_appended}
use Rattle.tau_record.proofs.laws.epochs_appended.Goals as goal

pub returns : goal.returns
returns c = epochs_appended
