use Rattle.tau_record.proofs.Appending.{appended_record}
use Rattle.tau_record.proofs.laws.appended_record.Goals as goal

pub returns : goal.returns
returns c = appended_record
