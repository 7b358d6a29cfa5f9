use Rattle.std.proofs.Common.{◌≡◌, ◌++◌, drop, take}
use Rattle.tau_record.specs.Vector.{ArePlaces}
use Rattle.tau_record.proofs.VectorLaws.{explicit}
use Rattle.tau_record.proofs.vector.put_parts.Given as goal

abbrev pub invariant-loop-j : goal.invariant-loop-j
invariant-loop-j l = record {
  bytes : l.out.items ++ explicit (drop l.j l.base) (drop l.j l.dep) ≡ l.fn.out.items ++ explicit l.base l.dep;
  places : ArePlaces (take l.j l.dep);
}
