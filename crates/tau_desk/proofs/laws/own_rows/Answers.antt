use Rattle.tau_desk.proofs.Owning.{own_rows_is}
use Rattle.tau_desk.proofs.laws.own_rows.Goals as goal

pub returns : goal.returns
returns c = own_rows_is
