-- The rows are taken out, put, and given back.
use Rattle.std.proofs.Common.{◌≡◌, List, subst, sym, ◌∙◌}
use Rattle.tau_base.specs.declared.value.Key.{Key}
use Rattle.tau_base.specs.declared.value.Value.{Value}
use Rattle.tau_model.specs.Tables.{IsTablesOf}
use Rattle.tau_follow.specs.Renewing.{after, keys_in, ArePut}
use Rattle.tau_follow.proofs.renew.put_all.Goals as goal

pub returns : goal.returns
returns c = λ db t a.
    (let same : c.into_rows-rows.result.items ≡ c.args.tables.now = c.into_rows-rows.ensures ∙ c.replace.ensures.value in
    let done = c.put_rows.ensures db (subst (λ (l : List (Key × Value)). IsTablesOf db l) (sym same) t) (subst (λ (l : List (Key × Value)). ArePut (keys_in l) c.args.writes.now c.args.places.now) (sym same) a) in
    subst (λ (l : List (Key × Value)). IsTablesOf (after c.args.writes.now db) l) (sym c.of-2.ensures) done)
