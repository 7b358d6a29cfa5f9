use Rattle.std.proofs.Common.{◌≡◌, length}
use Rattle.tau_engine.specs.Drill.{AreNewDisks, FailsOnce}
use Rattle.tau_engine.proofs.drill.failing_disks.Given as goal

abbrev pub invariant-loop-j : goal.invariant-loop-j
invariant-loop-j l = record {
  count : length l.disks.items ≡ l.j;
  new : AreNewDisks (FailsOnce l.stream l.call) l.disks.items;
}
