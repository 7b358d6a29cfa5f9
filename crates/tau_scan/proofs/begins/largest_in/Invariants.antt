-- The largest number of the marks from here on.
use Rattle.std.proofs.Common.{◌≡◌, drop}
use Rattle.tau_scan.specs.Begins.{largest_with}
use Rattle.tau_scan.specs.Epochs.{marks_in}
use Rattle.tau_scan.proofs.begins.largest_in.Given as goal

abbrev pub invariant-loop-i : goal.invariant-loop-i
invariant-loop-i l = l.largest ≡ largest_with (marks_in (drop l.i l.records)) l.initial.largest
