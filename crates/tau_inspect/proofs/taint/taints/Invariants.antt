-- What was told so far, and what the marks say of the other calls.
use Rattle.std.proofs.Common.{◌≡◌, ◌++◌, drop}
use Rattle.tau_inspect.specs.Marks.{marks_of}
use Rattle.tau_inspect.specs.Taint.{taints, unmarked}
use Rattle.tau_inspect.proofs.taint.taints.Given as goal

abbrev pub invariant-loop-i : goal.invariant-loop-i
invariant-loop-i l = l.tainted.items ++ taints (marks_of l.taint) (drop l.i l.all) (drop l.i l.missing) ≡ taints unmarked l.all l.missing
