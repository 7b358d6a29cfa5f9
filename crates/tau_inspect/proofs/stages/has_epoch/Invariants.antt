-- None so far.
use Rattle.std.proofs.Common.{◌≡◌, drop}
use Rattle.tau_scan.specs.Epochs.{marks_from}
use Rattle.tau_inspect.specs.Cases.{has_mark}
use Rattle.tau_inspect.proofs.stages.has_epoch.Given as goal

abbrev pub invariant-loop-j : goal.invariant-loop-j
invariant-loop-j l = has_mark (marks_from l.streams) ≡ has_mark (marks_from (drop l.j l.streams))
