-- The first acknowledged calls survive.
use Rattle.std.proofs.Common.{take}
use Rattle.tau_inspect.specs.Audit.{FitsAck}
use Rattle.tau_inspect.specs.Firsts.{AllFit}
use Rattle.tau_inspect.specs.Cases.{in_case}
use Rattle.tau_inspect.proofs.check_taint.check_acks.Given as goal

abbrev pub invariant-loop-i : goal.invariant-loop-i
invariant-loop-i l = AllFit (FitsAck (in_case l.case)) (take l.i l.case.report.now.acks)
