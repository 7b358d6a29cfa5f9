-- The smallest number of the marks of the streams from here on.
use Rattle.std.proofs.Common.{◌≡◌, drop}
use Rattle.std.specs.Prelude.{None}
use Rattle.tau_scan.specs.Epochs.{marks_from, least_number}
use Rattle.tau_scan.proofs.log.least_from.Given as goal

abbrev pub invariant-loop-j : goal.invariant-loop-j
invariant-loop-j l = l.found ≡ least_number l.above (marks_from (drop l.j l.streams)) None
