use Rattle.std.proofs.Common.{take}
use Rattle.tau_core.specs.LeftOvers.{IsLowestOf}
use Rattle.tau_core.proofs.resume.lowest.Given as goal

abbrev pub invariant-loop-worker : goal.invariant-loop-worker
invariant-loop-worker l = IsLowestOf (take l.worker l.state.seats.items) l.found
