use Rattle.tau_record.proofs.Appending.{named_anchors}
use Rattle.tau_record.proofs.laws.named_anchors.Goals as goal

pub returns : goal.returns
returns c = named_anchors
