-- The first calls replied so.
use Rattle.std.proofs.Common.{take}
use Rattle.tau_inspect.specs.Audit.{acts, FitsReply}
use Rattle.tau_inspect.specs.Firsts.{AllFit}
use Rattle.tau_inspect.specs.Cases.{in_case}
use Rattle.tau_inspect.proofs.checks.check_reply.Given as goal

abbrev pub invariant-loop-i : goal.invariant-loop-i
invariant-loop-i l = AllFit (FitsReply (in_case l.case)) (take l.i (acts (in_case l.case)))
