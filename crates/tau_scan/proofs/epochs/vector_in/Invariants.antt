-- No mark so far has the number.
use Rattle.std.proofs.Common.{◌≡◌, drop}
use Rattle.tau_epoch.specs.Known.{vector_of}
use Rattle.tau_scan.specs.Epochs.{marks_in}
use Rattle.tau_scan.proofs.epochs.vector_in.Given as goal

abbrev pub invariant-loop-placed : goal.invariant-loop-placed
invariant-loop-placed l = vector_of l.number (marks_in l.records) ≡ vector_of l.number (marks_in (drop l.placed-index l.records))
