use Rattle.tau_record.proofs.Appending.{anchors_appended}
use Rattle.tau_record.proofs.laws.anchors_appended.Goals as goal

pub returns : goal.returns
returns c = anchors_appended
