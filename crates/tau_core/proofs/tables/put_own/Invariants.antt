use Rattle.std.proofs.Common.{◌≡◌, drop}
use Rattle.tau_base.specs.Database.{Db, written}
use Rattle.tau_model.specs.Store.{database}
use Rattle.tau_core.specs.Rows.{own_rows}
use Rattle.tau_core.proofs.tables.put_own.Given as goal

abbrev pub invariant-loop-i : goal.invariant-loop-i
invariant-loop-i l = ◌≡◌ {A = Db} (database l.store) (written (own_rows l.number (drop l.i l.rows)) (database l.fn.store))
