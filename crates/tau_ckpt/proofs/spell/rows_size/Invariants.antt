use Rattle.std.proofs.Common.{◌≡◌, ◌≤◌, ◌*◌, length, take}
use Rattle.std.specs.List.{flat_map}
use Rattle.tau_record.specs.Item.{write}
use Rattle.tau_ckpt.proofs.spell.rows_size.Given as goal

abbrev pub invariant-loop-row : goal.invariant-loop-row
invariant-loop-row l = record {
  exact : l.size ≡ length (flat_map write (take l.row-index l.rows));
  small : l.size ≤ 77 * l.row-index;
}
