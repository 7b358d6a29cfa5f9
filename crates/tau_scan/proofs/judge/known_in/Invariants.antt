-- The marks of the streams so far are known.
use Rattle.std.proofs.Common.{◌≡◌, drop, []}
use Rattle.tau_scan.specs.Epochs.{marks_from, with_marks}
use Rattle.tau_scan.proofs.judge.known_in.Given as goal

abbrev pub invariant-loop-records : goal.invariant-loop-records
invariant-loop-records l = with_marks l.known (marks_from (drop l.records-index l.streams)) ≡ with_marks [] (marks_from l.streams)
