use Rattle.std.proofs.Common.{◌≡◌, ◌≤◌, ◌*◌, length, take}
use Rattle.std.specs.List.{flat_map}
use Rattle.tau_record.specs.Item.{value}
use Rattle.tau_record.proofs.item.args_size.Given as goal

abbrev pub invariant-loop-v : goal.invariant-loop-v
invariant-loop-v l = record {
  exact : l.size ≡ length (flat_map value (take l.v-index l.args));
  small : l.size ≤ 67 * l.v-index;
}
