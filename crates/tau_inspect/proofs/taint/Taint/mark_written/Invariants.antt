-- The first keys are marked.
use Rattle.std.proofs.Common.{◌≡◌, ◌||◌, take}
use Rattle.tau_base.specs.declared.value.Key.{Key}
use Rattle.tau_proc.specs.Effect.{has_key}
use Rattle.tau_inspect.specs.Marks.{marks_of}
use Rattle.tau_inspect.proofs.taint.Taint.mark_written.Given as goal

abbrev pub invariant-loop-i : goal.invariant-loop-i
invariant-loop-i l = (q : Key) → marks_of l.self q ≡ record { read = (marks_of l.fn.self q).read; written = has_key q (take l.i l.rows) || (marks_of l.fn.self q).written }
