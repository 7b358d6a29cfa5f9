use Rattle.tau_record.proofs.Appending.{epochs_rise}
use Rattle.tau_record.proofs.laws.epochs_rise.Goals as goal

pub returns : goal.returns
returns c = epochs_rise
