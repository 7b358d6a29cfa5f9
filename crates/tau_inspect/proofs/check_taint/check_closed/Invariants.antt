-- The first calls depend on none that is not taken, or are not taken.
use Rattle.std.proofs.Common.{take}
use Rattle.tau_inspect.specs.Audit.{acts, FitsClosed}
use Rattle.tau_inspect.specs.Firsts.{AllFit}
use Rattle.tau_inspect.specs.Cases.{in_case}
use Rattle.tau_inspect.proofs.check_taint.check_closed.Given as goal

abbrev pub invariant-loop-i : goal.invariant-loop-i
invariant-loop-i l = AllFit (FitsClosed (in_case l.case)) (take l.i (acts (in_case l.case)))
