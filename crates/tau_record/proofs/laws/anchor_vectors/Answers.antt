use Rattle.tau_record.proofs.Appending.{anchor_vectors}
use Rattle.tau_record.proofs.laws.anchor_vectors.Goals as goal

pub returns : goal.returns
returns c = anchor_vectors
