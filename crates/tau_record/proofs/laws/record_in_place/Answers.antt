use Rattle.tau_record.proofs.Appending.{record_in_place}
use Rattle.tau_record.proofs.laws.record_in_place.Goals as goal

pub returns : goal.returns
returns c = record_in_place
