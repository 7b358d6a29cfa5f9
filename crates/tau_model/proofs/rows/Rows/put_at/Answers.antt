-- The key at the place has the value then.
use Rattle.std.proofs.Common.{◌∷◌, [], ap, ◌∙◌}
use Rattle.indexmap.specs.IndexMap.{get, with_value_at}
use Rattle.indexmap.proofs.CallerLemmas.{updates-with_value_at}
use Rattle.tau_base.specs.declared.value.Value.{Value}
use Rattle.tau_base.specs.Database.{written}
use Rattle.tau_model.specs.Store.{is_key, rows_of}
use Rattle.tau_model.proofs.Contents.{is_key_laws}
use Rattle.tau_model.proofs.Places.{rows_set}
use Rattle.tau_model.proofs.rows.Rows.put_at.Goals as goal

pub returns-clause-set : goal.returns-clause-set
returns-clause-set c =
    let w : Value = c.put_value.new.place in
    rows_set (λ q. get is_key c.args.self.now.rows q) (λ q. get is_key (with_value_at c.args.self.now.rows c.args.place w) q) c.args.key w
    (λ q. (updates-with_value_at c.args.self.now.rows c.args.place w is_key_laws c.get_index_mut.ensures.unique c.args.key c.requires.at.0 c.requires.at.1).0 q)
    ∙ ap (λ (v : Value). written ((c.args.key, v) ∷ []) (rows_of c.args.self.now)) c.put_value.ensures
