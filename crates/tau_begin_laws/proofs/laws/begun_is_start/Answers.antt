use Rattle.tau_begin_laws.proofs.Starting.{opened}
use Rattle.tau_begin_laws.proofs.laws.begun_is_start.Goals as goal

pub returns : goal.returns
returns g c = opened g.D.Disk
