-- Those so far, and those that are left.
use Rattle.std.proofs.Common.{◌≡◌, ◌++◌, drop}
use Rattle.tau_follow.specs.Judging.{judged_in}
use Rattle.tau_follow.proofs.judge.judged_in.Given as goal

abbrev pub invariant-loop-i : goal.invariant-loop-i
invariant-loop-i l = judged_in l.known 0 l.records l.stages ≡ l.judged ++ judged_in l.known l.number (drop l.i l.records) (drop l.i l.stages)
