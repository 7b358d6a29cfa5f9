use Rattle.std.proofs.Common.{◌≡◌, ◌++◌, length, take}
use Rattle.tau_record.specs.Vector.{ArePlaces}
use Rattle.tau_ckpt.proofs.Fields.{spelled}
use Rattle.tau_ckpt.proofs.front.positions_of.Given as goal

abbrev pub invariant-loop-j : goal.invariant-loop-j
invariant-loop-j l = record {
  width : length l.lv ≡ length l.fn.lv;
  places : ArePlaces (take l.j l.lv);
  parts : l.bytes ≡ spelled (take l.j l.lv) ++ l.rest;
}
