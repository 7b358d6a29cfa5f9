use Rattle.std.proofs.Common.{◌≡◌, ◌-◌, List, [], ◌∷◌, drop, sym, ap, ◌∙◌, arith}
use Rattle.std.proofs.lemmas.Option.{get_or_from_slice_get}
use Rattle.tau_base.specs.declared.value.Key.{Key}
use Rattle.tau_base.specs.declared.value.Value.{Value}
use Rattle.tau_base.specs.Database.{Db, written}
use Rattle.tau_model.specs.Store.{database}
use Rattle.tau_model.proofs.Places.{drop_before}
use Rattle.tau_core.specs.Rows.{own_rows}
use Rattle.tau_core.proofs.ShardRows.{own_more}
use Rattle.tau_core.proofs.tables.put_own.Goals as goal
use Rattle.tau_base.proofs.Lists.{some_at}

pub loop-i-preserved : goal.loop-i-preserved
loop-i-preserved c =
    let rows : List (Key × Value) = c.args.rows.now in
    let found = some_at rows (c.loop-i.i - 1) (omega arith) in
    let row : Key × Value = found.0 in
    let more : drop (c.loop-i.i - 1) rows ≡ row ∷ drop c.loop-i.i rows = drop_before rows c.loop-i.i row (omega arith) (omega arith) (sym (get_or_from_slice_get rows (c.loop-i.i - 1) row row found.1)) in
    c.in_ok-put_if_own.ensures row found.1 ∙ ap (λ (d : Db). written (own_rows c.args.number (row ∷ [])) d) c.loop-i.invariant
    ∙ sym (own_more c.args.number row (drop c.loop-i.i rows) (database c.args.store.now)) ∙ ap (λ (l : List (Key × Value)). written (own_rows c.args.number l) (database c.args.store.now)) (sym more)
