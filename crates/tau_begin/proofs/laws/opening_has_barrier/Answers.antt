use Rattle.tau_begin.proofs.Barrier as barrier
use Rattle.tau_begin.proofs.laws.opening_has_barrier.Goals as goal

pub returns : goal.returns
returns g c = barrier.opening_has_barrier g.D.Disk g.met.D.Disk.only_now
