use Rattle.tau_record.proofs.RecordLaws.{spelled_once}
use Rattle.tau_record.proofs.laws.one_spelling.Goals as goal

pub returns : goal.returns
returns c = spelled_once
