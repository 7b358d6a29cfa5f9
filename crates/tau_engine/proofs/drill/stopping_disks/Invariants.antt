use Rattle.std.proofs.Common.{◌≡◌, length}
use Rattle.tau_engine.specs.Drill.{AreNewDisks, StopsAt}
use Rattle.tau_engine.proofs.drill.stopping_disks.Given as goal

abbrev pub invariant-loop-stream : goal.invariant-loop-stream
invariant-loop-stream l = record {
  count : length l.disks.items ≡ l.stream;
  new : AreNewDisks (StopsAt l.order l.after) l.disks.items;
}
