use Rattle.tau_desk.proofs.Owning.{own_pieces_is}
use Rattle.tau_desk.proofs.laws.own_pieces.Goals as goal

pub returns : goal.returns
returns c = own_pieces_is
