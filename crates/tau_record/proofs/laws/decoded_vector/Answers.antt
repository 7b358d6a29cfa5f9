use Rattle.tau_record.proofs.VectorLaws.{decoded_again}
use Rattle.tau_record.proofs.laws.decoded_vector.Goals as goal

pub returns : goal.returns
returns c = decoded_again
