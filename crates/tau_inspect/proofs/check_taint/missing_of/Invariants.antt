-- The first calls.
use Rattle.std.proofs.Common.{◌≡◌, take, map}
use Rattle.tau_inspect.specs.Audit.{acts, is_taken}
use Rattle.tau_inspect.specs.Taint.{is_missing}
use Rattle.tau_inspect.specs.Cases.{in_case}
use Rattle.tau_inspect.proofs.check_taint.missing_of.Given as goal

abbrev pub invariant-loop-i : goal.invariant-loop-i
invariant-loop-i l = l.missing.items ≡ map (is_missing (is_taken (in_case l.case))) (take l.i (acts (in_case l.case)))
