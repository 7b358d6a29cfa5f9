use Rattle.std.proofs.Common.{◌≡◌, ◌<◌, ◌-◌, List, ◌∷◌, length, drop, refl, sym, subst, ◌∙◌, arith}
use Rattle.std.specs.Prelude.{slice_set}
use Rattle.std.proofs.lemmas.Option.{slice_get_read}
use Rattle.tau_base.specs.declared.value.Key.{Key}
use Rattle.tau_base.specs.declared.value.Value.{Value}
use Rattle.tau_model.proofs.Places.{drop_before}
use Rattle.tau_core.specs.Opens.{AreShards, PutsRow}
use Rattle.tau_core.proofs.RowPuts.{rows_put}
use Rattle.tau_core.proofs.parts.put_rows.Goals as goal

pub put_row-requires : goal.put_row-requires
put_row-requires c =
    let within : c.from.result < length c.loop-i.shards.items = (let e = c.from.ensures in let f = c.shard_of.ensures.small in let n = c.loop-i.invariant.count in omega arith) in
    let got = slice_get_read c.loop-i.shards.items (length c.loop-i.shards.items) c.from.result c.index_mut-part.result.now refl within c.index_mut-part.ensures.value in
    (c.loop-i.invariant.each c.from.result c.index_mut-part.result.now got).unlocked

pub loop-i-preserved : goal.loop-i-preserved
loop-i-preserved c =
    let within : c.from.result < length c.loop-i.shards.items = (let e = c.from.ensures in let f = c.shard_of.ensures.small in let n = c.loop-i.invariant.count in omega arith) in
    let got = slice_get_read c.loop-i.shards.items (length c.loop-i.shards.items) c.from.result c.index_mut-part.result.now refl within c.index_mut-part.ensures.value in
    let row : Key × Value = c.index-rows-i.result in
    let more : drop (c.loop-i.i - 1) c.args.rows.now ≡ row ∷ drop c.loop-i.i c.args.rows.now = drop_before c.args.rows.now c.loop-i.i row (omega arith) (omega arith) c.index-rows-i.is in
    let puts : PutsRow c.args.floor row.0 row.1 c.index_mut-part.result.now c.put_row.new.part = subst (λ (v : Value). PutsRow c.args.floor row.0 v c.index_mut-part.result.now c.put_row.new.part) c.copied.ensures c.in_ok-put_row.ensures in
    subst (λ (l : List (Key × Value)). AreShards c.args.floor l (slice_set c.loop-i.shards.items c.from.result c.put_row.new.part)) (sym more)
    (rows_put c.args.floor row.0 row.1 (drop c.loop-i.i c.args.rows.now) c.loop-i.shards.items c.from.result c.index_mut-part.result.now c.put_row.new.part c.loop-i.invariant got (c.from.ensures ∙ c.shard_of.ensures.same) puts)
