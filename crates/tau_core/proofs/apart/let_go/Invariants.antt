use Rattle.std.proofs.Common.{◌≡◌}
use Rattle.tau_core.proofs.Emptied.{emptied}
use Rattle.tau_core.proofs.apart.let_go.Given as goal

abbrev pub invariant-loop-worker : goal.invariant-loop-worker
invariant-loop-worker l = l.seats.items ≡ emptied l.worker l.fn.seats.items
