-- The largest number of the marks of the streams from here on.
use Rattle.std.proofs.Common.{◌≡◌, drop}
use Rattle.tau_scan.specs.Begins.{largest_with}
use Rattle.tau_scan.specs.Epochs.{marks_from}
use Rattle.tau_scan.proofs.begins.largest_epoch.Given as goal

abbrev pub invariant-loop-j : goal.invariant-loop-j
invariant-loop-j l = l.found ≡ largest_with (marks_from (drop l.j l.streams)) 0
