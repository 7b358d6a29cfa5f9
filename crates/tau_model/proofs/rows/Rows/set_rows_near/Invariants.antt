-- The last rows are set, and there is room for the others.
use Rattle.std.proofs.Common.{◌≡◌, ◌≤◌, drop}
use Rattle.indexmap.specs.IndexMap.{spare}
use Rattle.tau_base.specs.Database.{written}
use Rattle.tau_model.specs.Store.{rows_of}
use Rattle.tau_model.proofs.rows.Rows.set_rows_near.Given as goal

abbrev pub invariant-loop-at : goal.invariant-loop-at
invariant-loop-at l = record {
  set : rows_of l.self ≡ written (drop l.at l.writes) (rows_of l.fn.self);
  room : l.at ≤ spare l.self.rows;
}
