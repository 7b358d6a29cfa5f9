-- The last rows are set, and there is room for the others.
use Rattle.std.proofs.Common.{◌≡◌, ◌≤◌, drop}
use Rattle.indexmap.specs.IndexMap.{spare}
use Rattle.tau_base.specs.Database.{written}
use Rattle.tau_model.specs.Store.{rows_of}
use Rattle.tau_model.proofs.rows.Rows.set_rows.Given as goal

abbrev pub invariant-loop-i : goal.invariant-loop-i
invariant-loop-i l = record {
  set : rows_of l.self ≡ written (drop l.i l.writes) (rows_of l.fn.self);
  room : l.i ≤ spare l.self.rows;
}
