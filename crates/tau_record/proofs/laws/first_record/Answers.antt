use Rattle.tau_record.proofs.Appending.{first_record}
use Rattle.tau_record.proofs.laws.first_record.Goals as goal

pub returns : goal.returns
returns c = first_record
