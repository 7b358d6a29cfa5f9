-- The number of the epoch so far.
use Rattle.std.proofs.Common.{◌≡◌, take}
use Rattle.tau_record.specs.Content.{last_epoch}
use Rattle.tau_scan.proofs.log.last_epoch.Given as goal

abbrev pub invariant-loop-i : goal.invariant-loop-i
invariant-loop-i l = l.number ≡ last_epoch 0 (take l.i l.records)
