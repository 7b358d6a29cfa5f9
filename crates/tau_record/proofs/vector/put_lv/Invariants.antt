use Rattle.std.proofs.Common.{◌≡◌, ◌++◌, take}
use Rattle.std.specs.List.{flat_map}
use Rattle.std.specs.Int.{w64, to_be_bytes}
use Rattle.tau_record.specs.Vector.{ArePlaces}
use Rattle.tau_record.proofs.vector.put_lv.Given as goal

abbrev pub invariant-loop-j : goal.invariant-loop-j
invariant-loop-j l = record {
  bytes : l.out.items ≡ l.fn.out.items ++ flat_map (to_be_bytes w64) (take l.j l.lv);
  places : ArePlaces (take l.j l.lv);
}
