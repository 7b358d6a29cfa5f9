use Rattle.tau_record.proofs.RecordLaws.{first_epoch}
use Rattle.tau_record.proofs.laws.first_epoch.Goals as goal

pub returns : goal.returns
returns c = first_epoch
