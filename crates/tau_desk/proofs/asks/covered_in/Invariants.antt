-- Those before were counted.
use Rattle.std.proofs.Common.{◌≡◌, ◌≤◌, take}
use Rattle.tau_desk.specs.Asks.{covered_calls}
use Rattle.tau_desk.proofs.asks.covered_in.Given as goal

abbrev pub invariant-loop-i : goal.invariant-loop-i
invariant-loop-i l = record {
  count : l.count ≡ covered_calls l.positions (take l.i l.calls.items);
  low : l.count ≤ l.i;
}
