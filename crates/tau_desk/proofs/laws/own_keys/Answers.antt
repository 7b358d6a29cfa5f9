use Rattle.tau_desk.proofs.Owning.{own_keys_is}
use Rattle.tau_desk.proofs.laws.own_keys.Goals as goal

pub returns : goal.returns
returns c = own_keys_is
