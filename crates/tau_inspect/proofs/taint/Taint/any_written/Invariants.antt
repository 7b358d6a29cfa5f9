-- None of the first keys is marked so.
use Rattle.std.proofs.Common.{◌≡◌, drop}
use Rattle.tau_inspect.specs.Marks.{marks_of}
use Rattle.tau_inspect.specs.Taint.{any_written}
use Rattle.tau_inspect.proofs.taint.Taint.any_written.Given as goal

abbrev pub invariant-loop-i : goal.invariant-loop-i
invariant-loop-i l = any_written (marks_of l.self) l.rows ≡ any_written (marks_of l.self) (drop l.i l.rows)
