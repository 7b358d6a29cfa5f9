use Rattle.std.proofs.Common.{◌+◌, ◌≤◌, ◌≡◌, length, drop, max}
use Rattle.tau_outbox.specs.Pieces.{bytes_of}
use Rattle.tau_outbox.specs.Gather.{run}
use Rattle.tau_outbox.proofs.run_size.Given as goal

abbrev pub invariant-loop-i : goal.invariant-loop-i
invariant-loop-i l = record {
  bytes : length (bytes_of (run l.next l.used l.pieces.items)) ≡ l.size + length (bytes_of (run l.to (l.used + l.size) (drop l.i l.pieces.items)));
  along : l.to ≡ l.next + l.size;
  low : l.used + l.size ≤ max l.used 1048576;
}
