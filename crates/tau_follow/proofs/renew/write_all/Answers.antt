-- The rows are taken out, written, and given back.
use Rattle.std.proofs.Common.{List, subst, sym, ◌∙◌, ◌≡◌}
use Rattle.tau_base.specs.declared.value.Key.{Key}
use Rattle.tau_base.specs.declared.value.Value.{Value}
use Rattle.tau_model.specs.Tables.{IsTablesOf}
use Rattle.tau_follow.specs.Renewing.{after}
use Rattle.tau_follow.proofs.renew.write_all.Goals as goal

pub returns-in-Ok-clause-ok : goal.returns-in-Ok-clause-ok
returns-in-Ok-clause-ok c = λ db t.
    (let same : c.reserve.new.self.items ≡ c.args.tables.now = c.reserve.ensures.items ∙ c.into_rows-rows.ensures ∙ c.replace.ensures.value in
    let done = c.write_each.ensures db (subst (λ (l : List (Key × Value)). IsTablesOf db l) (sym same) t) in
    subst (λ (l : List (Key × Value)). IsTablesOf (after c.args.writes.now db) l) (sym c.of-in-Ok.ensures) done)

pub returns-in-Err-clause-err : goal.returns-in-Err-clause-err
returns-in-Err-clause-err c = c.of-in-Err.ensures ∙ c.reserve.ensures.items ∙ c.into_rows-rows.ensures ∙ c.replace.ensures.value
