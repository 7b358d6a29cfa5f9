-- None so far, and those that are left.
use Rattle.std.proofs.Common.{◌≡◌, drop}
use Rattle.tau_follow.specs.Judging.{late_from}
use Rattle.tau_follow.proofs.judge.late_from.Given as goal

abbrev pub invariant-loop-j : goal.invariant-loop-j
invariant-loop-j l = late_from l.known l.j (drop l.j l.streams) (drop l.j l.stages) ≡ late_from l.known 0 l.streams l.stages
