-- There is room, so the row is put.
use Rattle.std.proofs.Common.{◌∷◌, [], ap, ◌∙◌}
use Rattle.indexmap.specs.IndexMap.{get}
use Rattle.tau_base.specs.declared.value.Value.{Value}
use Rattle.tau_base.specs.Database.{written}
use Rattle.tau_model.specs.Store.{is_key, rows_of}
use Rattle.tau_model.proofs.Places.{rows_set, when_ok}
use Rattle.tau_model.proofs.rows.Rows.add_row.Goals as goal

pub returns-clause-set : goal.returns-clause-set
returns-clause-set c =
    rows_set (λ q. get is_key c.args.self.now.rows q) (λ q. get is_key c.insert.new.self q) c.args.key c.copied.result
    (λ q. (when_ok c.insert.result c.insert.ensures.updates (c.insert.ensures.succeeds c.requires)).0 q)
    ∙ ap (λ (v : Value). written ((c.args.key, v) ∷ []) (rows_of c.args.self.now)) c.copied.ensures
