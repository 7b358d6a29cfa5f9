use Rattle.std.proofs.Common.{◌≡◌, ◌≤◌, take}
use Rattle.tau_engine.specs.Bench.{lines_in}
use Rattle.tau_engine.proofs.bench.lines_in.Given as goal

abbrev pub invariant-loop-byte : goal.invariant-loop-byte
invariant-loop-byte l = record {
  count : l.count ≡ lines_in (take l.byte-index l.text);
  low : l.count ≤ l.byte-index;
}
