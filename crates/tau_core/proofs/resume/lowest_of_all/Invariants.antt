use Rattle.std.proofs.Common.{take}
use Rattle.tau_core.specs.LeftOvers.{IsLowestIn}
use Rattle.tau_core.proofs.resume.lowest_of_all.Given as goal

abbrev pub invariant-loop-at : goal.invariant-loop-at
invariant-loop-at l = IsLowestIn l.worker (take l.at l.left.numbers) l.found
