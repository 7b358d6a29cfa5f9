-- The streams so far, and those that are left.
use Rattle.std.proofs.Common.{◌≡◌, ◌++◌, drop}
use Rattle.tau_follow.specs.Judging.{judged_from}
use Rattle.tau_follow.proofs.judge.judged_from.Given as goal

abbrev pub invariant-loop-j : goal.invariant-loop-j
invariant-loop-j l = l.judged.items ++ judged_from l.known (drop l.j l.streams) (drop l.j l.stages) ≡ judged_from l.known l.streams l.stages
