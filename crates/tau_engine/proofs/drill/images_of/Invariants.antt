use Rattle.std.proofs.Common.{◌≡◌, length, map, take}
use Rattle.tau_disk.specs.Memory.{seen_by}
use Rattle.tau_engine.specs.Drill.{images_by}
use Rattle.tau_engine.proofs.drill.images_of.Given as goal

abbrev pub invariant-loop-disk : goal.invariant-loop-disk
invariant-loop-disk l = record {
  count : length l.images.items ≡ l.disk-index;
  held : map seen_by l.images.items ≡ images_by l.tear (take l.disk-index l.disks);
}
