-- The smallest number of the marks from here on.
use Rattle.std.proofs.Common.{◌≡◌, drop}
use Rattle.tau_scan.specs.Epochs.{marks_in, least_number}
use Rattle.tau_scan.proofs.log.least_in.Given as goal

abbrev pub invariant-loop-i : goal.invariant-loop-i
invariant-loop-i l = l.found ≡ least_number l.above (marks_in (drop l.i l.records)) l.initial.found
