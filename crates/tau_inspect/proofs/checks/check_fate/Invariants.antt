-- The first calls are told so.
use Rattle.std.proofs.Common.{take}
use Rattle.tau_inspect.specs.Audit.{numbers, FitsFate}
use Rattle.tau_inspect.specs.Firsts.{AllFit}
use Rattle.tau_inspect.specs.Cases.{in_case}
use Rattle.tau_inspect.proofs.checks.check_fate.Given as goal

abbrev pub invariant-loop-i : goal.invariant-loop-i
invariant-loop-i l = AllFit (FitsFate (in_case l.case)) (take l.i (numbers (in_case l.case)))
