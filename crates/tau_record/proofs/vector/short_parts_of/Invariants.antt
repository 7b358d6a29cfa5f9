use Rattle.std.proofs.Common.{◌≡◌, length, drop}
use Rattle.tau_record.specs.Vector.{parts_at}
use Rattle.tau_record.proofs.Loop.{with_front}
use Rattle.tau_record.proofs.vector.short_parts_of.Given as goal

abbrev pub invariant-loop-j : goal.invariant-loop-j
invariant-loop-j l = record {
  count : length l.short.items ≡ l.j;
  reads : with_front l.short.items (parts_at (drop l.j l.base) l.left l.rest) ≡ parts_at l.base l.mask l.bytes;
}
