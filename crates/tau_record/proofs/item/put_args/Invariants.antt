use Rattle.std.proofs.Common.{◌≡◌, ◌++◌, take}
use Rattle.std.specs.List.{flat_map, AllByRecursion}
use Rattle.tau_record.specs.Item.{value, FitsValue}
use Rattle.tau_record.proofs.item.put_args.Given as goal

abbrev pub invariant-loop-v : goal.invariant-loop-v
invariant-loop-v l = record {
  bytes : l.out.items ≡ l.fn.out.items ++ flat_map value (take l.v-index l.args);
  fit : AllByRecursion FitsValue (take l.v-index l.args);
}
