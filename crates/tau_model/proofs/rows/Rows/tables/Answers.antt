-- The present rows, once they are sorted, are the tables.
use Rattle.std.proofs.Common.{sym, subst}
use Rattle.std.specs.List.{filter}
use Rattle.std.specs.List.Sorted.{IsPermutation}
use Rattle.tau_model.specs.Store.{rows_of}
use Rattle.tau_model.specs.Tables.{is_present, IsTablesOf}
use Rattle.tau_model.proofs.Contents.{tables_sorted}
use Rattle.tau_model.proofs.rows.Rows.tables.Goals as goal

pub returns : goal.returns
returns c =
    let moved : IsPermutation (filter is_present c.args.self.now.rows.entries) c.sort_rows.new.rows.items =
    subst (λ rows. IsPermutation rows c.sort_rows.new.rows.items) c.in_ok-rows.ensures.rows c.sort_rows.ensures.same in
    subst (λ rows. IsTablesOf (rows_of c.args.self.now) rows) (sym c.of.ensures)
    (tables_sorted c.args.self.now.rows.entries c.sort_rows.new.rows.items c.in_ok-rows.ensures.once moved c.sort_rows.ensures.ascending)
