use Rattle.std.proofs.Common.{◌≡◌, ◌++◌, take}
use Rattle.std.specs.List.{flat_map, AllByRecursion}
use Rattle.tau_record.specs.Item.{write, FitsWrite}
use Rattle.tau_record.proofs.item.put_writes.Given as goal

abbrev pub invariant-loop-w : goal.invariant-loop-w
invariant-loop-w l = record {
  bytes : l.out.items ≡ l.fn.out.items ++ flat_map write (take l.w-index l.writes);
  fit : AllByRecursion FitsWrite (take l.w-index l.writes);
}
