-- No mark so far has a fault.
use Rattle.std.proofs.Common.{◌≡◌, drop}
use Rattle.tau_scan.specs.Epochs.{marks_in}
use Rattle.tau_scan.specs.Reading.{marks_fault}
use Rattle.tau_scan.proofs.epochs.stream_fault.Given as goal

abbrev pub invariant-loop-placed : goal.invariant-loop-placed
invariant-loop-placed l = marks_fault l.streams l.j (marks_in l.records) ≡ marks_fault l.streams l.j (marks_in (drop l.placed-index l.records))
