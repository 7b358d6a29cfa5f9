-- No stream so far has a fault.
use Rattle.std.proofs.Common.{◌≡◌, drop}
use Rattle.tau_scan.specs.Reading.{epochs_fault, epoch_fault}
use Rattle.tau_scan.proofs.epochs.epoch_fault.Given as goal

abbrev pub invariant-loop-j : goal.invariant-loop-j
invariant-loop-j l = epoch_fault l.streams ≡ epochs_fault l.streams l.j (drop l.j l.streams)
