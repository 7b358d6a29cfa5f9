-- The marks so far are known.
use Rattle.std.proofs.Common.{◌≡◌, drop}
use Rattle.tau_scan.specs.Epochs.{marks_in, with_marks}
use Rattle.tau_scan.proofs.judge.know_stream.Given as goal

abbrev pub invariant-loop-placed : goal.invariant-loop-placed
invariant-loop-placed l = with_marks l.known (marks_in (drop l.placed-index l.records)) ≡ with_marks l.initial.known (marks_in l.records)
