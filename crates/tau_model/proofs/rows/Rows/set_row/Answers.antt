-- A row that becomes absent is taken out.
use Rattle.std.proofs.Common.{sym, ◌∙◌}
use Rattle.indexmap.specs.IndexMap.{get}
use Rattle.tau_model.specs.Store.{is_key}
use Rattle.tau_model.proofs.Places.{rows_removed}
use Rattle.tau_model.proofs.rows.Rows.set_row.Goals as goal

pub returns-then-not-is_value-clause-set : goal.returns-then-not-is_value-clause-set
returns-then-not-is_value-clause-set c =
    rows_removed (λ q. get is_key c.args.self.now.rows q) (λ q. get is_key c.swap_remove.new.self q) c.args.key c.args.value.now
    (sym c.is_value.ensures ∙ c.if-not-is_value.true) (λ q. c.swap_remove.ensures.updates.0 q)
