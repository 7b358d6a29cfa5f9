-- None of the first calls is missing.
use Rattle.std.proofs.Common.{◌≡◌, false, take}
use Rattle.std.specs.List.{list_any}
use Rattle.tau_inspect.specs.Audit.{acts, is_taken}
use Rattle.tau_inspect.specs.Taint.{is_missing}
use Rattle.tau_inspect.specs.Cases.{in_case}
use Rattle.tau_inspect.proofs.check_taint.is_any_missing.Given as goal

abbrev pub invariant-loop-i : goal.invariant-loop-i
invariant-loop-i l = list_any (is_missing (is_taken (in_case l.case))) (take l.i (acts (in_case l.case))) ≡ false
