-- None so far, and those that are left.
use Rattle.std.proofs.Common.{◌≡◌, drop}
use Rattle.tau_follow.specs.Judging.{late_of}
use Rattle.tau_follow.proofs.judge.late_of.Given as goal

abbrev pub invariant-loop-i : goal.invariant-loop-i
invariant-loop-i l = late_of l.known 0 l.records l.stages ≡ late_of l.known l.number (drop l.i l.records) (drop l.i l.stages)
