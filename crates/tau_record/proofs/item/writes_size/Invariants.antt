use Rattle.std.proofs.Common.{◌≡◌, ◌≤◌, ◌*◌, length, take}
use Rattle.std.specs.List.{flat_map}
use Rattle.tau_record.specs.Item.{write}
use Rattle.tau_record.proofs.item.writes_size.Given as goal

abbrev pub invariant-loop-w : goal.invariant-loop-w
invariant-loop-w l = record {
  exact : l.size ≡ length (flat_map write (take l.w-index l.writes));
  small : l.size ≤ 77 * l.w-index;
}
