-- Those before were counted.
use Rattle.std.proofs.Common.{◌≡◌, ◌≤◌, length, take}
use Rattle.tau_crew.specs.EndLeft.{calls_of}
use Rattle.tau_crew.proofs.ending_done.count_of.Given as goal

abbrev pub invariant-loop-i : goal.invariant-loop-i
invariant-loop-i l = record {
  count : l.count ≡ length (calls_of l.workers l.worker (take l.i l.acks));
  low : l.count ≤ l.i;
}
