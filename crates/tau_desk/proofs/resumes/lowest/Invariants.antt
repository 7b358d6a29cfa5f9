use Rattle.std.proofs.Common.{take}
use Rattle.tau_desk.specs.Resumes.{IsLowestOf}
use Rattle.tau_desk.proofs.resumes.lowest.Given as goal

abbrev pub invariant-loop-worker : goal.invariant-loop-worker
invariant-loop-worker l = IsLowestOf (take l.worker l.works.items) l.found
