use Rattle.tau_desk.proofs.Owning.{own_calls_is}
use Rattle.tau_desk.proofs.laws.own_calls.Goals as goal

pub returns : goal.returns
returns c = own_calls_is
