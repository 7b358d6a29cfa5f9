use Rattle.std.proofs.Common.{◌≡◌, take}
use Rattle.tau_proc.proofs.program.same_in_front.Given as goal

abbrev pub invariant-loop-at : goal.invariant-loop-at
invariant-loop-at l = take l.at l.kept ≡ take l.at l.steps
