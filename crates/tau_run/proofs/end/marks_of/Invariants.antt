use Rattle.std.proofs.Common.{◌≡◌, take}
use Rattle.tau_run.specs.Fates.{marks_in}
use Rattle.tau_run.proofs.end.marks_of.Given as goal

abbrev pub invariant-loop-i : goal.invariant-loop-i
invariant-loop-i l = l.marks.items ≡ marks_in l.calls (take l.i l.acks)
