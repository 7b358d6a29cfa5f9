use Rattle.std.proofs.Common.{drop}
use Rattle.tau_core.specs.Opens.{AreShards}
use Rattle.tau_core.proofs.parts.put_rows.Given as goal

abbrev pub invariant-loop-i : goal.invariant-loop-i
invariant-loop-i l = AreShards l.floor (drop l.i l.rows) l.shards.items
