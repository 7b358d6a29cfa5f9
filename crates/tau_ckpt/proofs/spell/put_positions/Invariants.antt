use Rattle.std.proofs.Common.{◌≡◌, ◌++◌, take}
use Rattle.tau_record.specs.Vector.{ArePlaces}
use Rattle.tau_ckpt.proofs.Fields.{spelled}
use Rattle.tau_ckpt.proofs.spell.put_positions.Given as goal

abbrev pub invariant-loop-j : goal.invariant-loop-j
invariant-loop-j l = record {
  bytes : l.out.items ≡ l.fn.out.items ++ spelled (take l.j l.lv);
  places : ArePlaces (take l.j l.lv);
}
