use Rattle.std.proofs.Common.{◌≡◌, length}
use Rattle.tau_engine.specs.Drill.{AreNewDisks}
use Rattle.tau_engine.proofs.bench.new_disks.Given as goal

abbrev pub invariant-loop-j : goal.invariant-loop-j
invariant-loop-j l = record {
  count : length l.disks.items ≡ l._j;
  new : AreNewDisks (λ j d. Unit {0}) l.disks.items;
}
