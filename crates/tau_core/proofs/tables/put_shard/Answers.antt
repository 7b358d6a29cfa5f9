use Rattle.std.proofs.Common.{◌≡◌, List, ◌++◌, ap, ◌∙◌}
use Rattle.std.proofs.lemmas.Result.{on_ok_weaker}
use Rattle.tau_base.specs.declared.value.Key.{Key}
use Rattle.tau_base.specs.declared.value.Value.{Value}
use Rattle.tau_base.specs.Database.{written}
use Rattle.tau_model.specs.Store.{database}
use Rattle.tau_shard.specs.Present.{present_rows}
use Rattle.tau_core.specs.Rows.{own_rows}
use Rattle.tau_core.proofs.ShardRows.{own_written}
use Rattle.tau_core.proofs.tables.put_shard.Goals as goal

pub returns : goal.returns
returns c =
    let rows : c.as_slice.result.now ≡ present_rows c.args.part.now.rows = c.as_slice.ensures.value ∙ c.in_ok-present.ensures.rows ∙ ap (λ (l : List (Key × Value)). l ++ present_rows c.args.part.now.rows) c.new-rows.ensures.items in
    on_ok_weaker c.put_own.result (λ ok. ok ∙ ap (λ (l : List (Key × Value)). written (own_rows c.args.number l) (database c.args.store.now)) rows
    ∙ own_written c.args.number c.args.part.now (present_rows c.args.part.now.rows) (database c.args.store.now) c.present.ensures.database c.requires) c.put_own.ensures
