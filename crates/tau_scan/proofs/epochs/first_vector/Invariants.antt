-- No mark of the streams so far has the number.
use Rattle.std.proofs.Common.{◌≡◌, drop}
use Rattle.tau_epoch.specs.Known.{vector_of}
use Rattle.tau_scan.specs.Epochs.{marks_from}
use Rattle.tau_scan.proofs.epochs.first_vector.Given as goal

abbrev pub invariant-loop-records : goal.invariant-loop-records
invariant-loop-records l = vector_of l.number (marks_from l.streams) ≡ vector_of l.number (marks_from (drop l.records-index l.streams))
