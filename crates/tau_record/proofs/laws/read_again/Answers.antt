use Rattle.tau_record.proofs.RecordLaws.{record_again}
use Rattle.tau_record.proofs.laws.read_again.Goals as goal

pub returns : goal.returns
returns c = record_again
