-- The disks so far are synced and read, the others are as they were.
use Rattle.std.proofs.Common.{◌≡◌, length, map, take}
use Rattle.tau_disk.specs.Stages.{Staged}
use Rattle.tau_scan.proofs.Settling.{SettledAt}
use Rattle.tau_commands.proofs.slots.settle_slots.Given as goal

abbrev pub invariant-loop-j : goal.invariant-loop-j
invariant-loop-j g l = record {
  settled : Staged (SettledAt g.D.Disk l.lengths) l.j l.initial.disks l.disks;
  given : g.D.Disk.tells → l.images ≡ map g.D.Disk.seen (take l.j l.initial.disks);
  count : length l.images ≡ l.j;
}
