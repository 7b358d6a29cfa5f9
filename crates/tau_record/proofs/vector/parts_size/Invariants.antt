use Rattle.std.proofs.Common.{◌≡◌, ◌≤◌, ◌+◌, ◌*◌, length, drop}
use Rattle.tau_record.proofs.VectorLaws.{explicit}
use Rattle.tau_record.proofs.vector.parts_size.Given as goal

abbrev pub invariant-loop-j : goal.invariant-loop-j
invariant-loop-j l = record {
  exact : l.size + length (explicit (drop l.j l.base) (drop l.j l.dep)) ≡ length (explicit l.base l.dep);
  small : l.size ≤ 8 * l.j;
}
