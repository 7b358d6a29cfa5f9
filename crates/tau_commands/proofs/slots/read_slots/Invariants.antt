-- The disks so far are read by calls of which none was to fail, the others are as they were.
use Rattle.tau_scan.proofs.Disks.{IsReading}
use Rattle.tau_scan.proofs.Plans.{IsGoing}
use Rattle.tau_commands.proofs.slots.read_slots.Given as goal

abbrev pub invariant-loop-j : goal.invariant-loop-j
invariant-loop-j g l = record {
  reading : IsReading g.D.Disk.tells g.D.Disk.seen g.D.Disk.may_leave g.D.Disk.moment g.D.Disk.may_leave_since g.D.Disk.faults g.D.Disk.number g.D.Disk.fails l.initial.disks l.disks l.j l.images;
  going : IsGoing g.D.Disk.number g.D.Disk.fails g.D.Disk.tells g.D.Disk.short l.initial.disks l.disks l.j;
}
