use Rattle.tau_desk.proofs.Owning.{own_vectors_is}
use Rattle.tau_desk.proofs.laws.own_vectors.Goals as goal

pub returns : goal.returns
returns c = own_vectors_is
