use Rattle.std.proofs.Common.{◌≡◌, false, take}
use Rattle.std.specs.List.{list_any}
use Rattle.tau_disk.specs.Memory.{is_short_by}
use Rattle.tau_engine.proofs.drill.any_short.Given as goal

abbrev pub invariant-loop-disk : goal.invariant-loop-disk
invariant-loop-disk l = list_any is_short_by (take l.disk-index l.disks) ≡ false
