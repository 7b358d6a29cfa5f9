-- None so far.
use Rattle.std.proofs.Common.{◌≡◌, drop}
use Rattle.tau_scan.specs.Epochs.{marks_in}
use Rattle.tau_inspect.specs.Cases.{has_mark}
use Rattle.tau_inspect.proofs.stages.stream_has_epoch.Given as goal

abbrev pub invariant-loop-i : goal.invariant-loop-i
invariant-loop-i l = has_mark (marks_in l.records) ≡ has_mark (marks_in (drop l.i l.records))
