use Rattle.std.proofs.Common.{take}
use Rattle.tau_desk.specs.Resumes.{IsLowestIn}
use Rattle.tau_desk.proofs.resumes.lowest_of_all.Given as goal

abbrev pub invariant-loop-at : goal.invariant-loop-at
invariant-loop-at l = IsLowestIn l.worker (take l.at l.left.numbers) l.found
