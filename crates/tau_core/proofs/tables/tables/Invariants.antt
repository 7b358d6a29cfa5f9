use Rattle.std.proofs.Common.{◌≡◌}
use Rattle.tau_base.specs.Database.{Db}
use Rattle.tau_model.specs.Store.{database}
use Rattle.tau_core.proofs.ShardRows.{rows_below}
use Rattle.tau_core.proofs.tables.tables.Given as goal

abbrev pub invariant-loop-i : goal.invariant-loop-i
invariant-loop-i l = ◌≡◌ {A = Db} (database l.store) (rows_below l.i l.state.shards.items)
