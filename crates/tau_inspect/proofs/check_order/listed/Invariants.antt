-- The first calls are listed.
use Rattle.std.proofs.Common.{◌≡◌, take, map}
use Rattle.tau_inspect.specs.Audit.{acts, committed_of}
use Rattle.tau_inspect.specs.Cases.{in_case}
use Rattle.tau_inspect.proofs.check_order.listed.Given as goal

abbrev pub invariant-loop-i : goal.invariant-loop-i
invariant-loop-i l = l.list.items ≡ map (committed_of (in_case l.case)) (take l.i (acts (in_case l.case)))
