-- The calls so far are within.
use Rattle.std.proofs.Common.{take}
use Rattle.std.specs.List.{All}
use Rattle.tau_model.specs.Committed.{IsWithin}
use Rattle.tau_model.proofs.report.are_within.Given as goal

abbrev pub invariant-loop-i : goal.invariant-loop-i
invariant-loop-i l = All (IsWithin l.ends) (take l.i l.list.items)
