use Rattle.std.proofs.Common.{◌≡◌, ◌++◌, drop, take, length}
use Rattle.tau_shard.specs.Present.{present_rows}
use Rattle.tau_shard.proofs.shard.append_present.Given as goal

abbrev pub invariant-loop-i : goal.invariant-loop-i
invariant-loop-i l = (l.out.items ++ present_rows (drop l.i l.rows.entries) ≡ l.initial.out.items ++ present_rows l.rows.entries) × (take (length l.initial.out.items) l.out.items ≡ l.initial.out.items)
