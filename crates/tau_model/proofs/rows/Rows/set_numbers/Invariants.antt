-- The last rows are set, and there is room for the others.
use Rattle.std.proofs.Common.{◌≡◌, ◌≤◌, drop, map}
use Rattle.indexmap.specs.IndexMap.{spare}
use Rattle.tau_base.specs.declared.value.Value.TheVariants.{Int}
use Rattle.tau_base.specs.Database.{written}
use Rattle.tau_model.specs.Store.{rows_of}
use Rattle.tau_model.proofs.rows.Rows.set_numbers.Given as goal

abbrev pub invariant-loop-place : goal.invariant-loop-place
invariant-loop-place l = record {
  set : rows_of l.self ≡ written (map (λ r. (r.0, Int r.1)) (drop l.place l.writes)) (rows_of l.fn.self);
  room : l.place ≤ spare l.self.rows;
}
