use Rattle.tau_desk.proofs.Owning.{own_committed_is}
use Rattle.tau_desk.proofs.laws.own_committed.Goals as goal

pub returns : goal.returns
returns c = own_committed_is
