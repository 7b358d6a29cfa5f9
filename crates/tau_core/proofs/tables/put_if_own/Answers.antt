use Rattle.std.proofs.Common.{◌≡◌, List, length, refl, sym, ap, ◌∙◌, arith}
use Rattle.std.specs.Prelude.{Some}
use Rattle.std.proofs.lemmas.Result.{on_ok_weaker}
use Rattle.std.proofs.lemmas.Option.{slice_get_read}
use Rattle.tau_base.specs.Database.{written}
use Rattle.tau_base.specs.Shards.{shard_number}
use Rattle.tau_base.specs.declared.value.Key.{Key}
use Rattle.tau_base.specs.declared.value.Value.{Value}
use Rattle.tau_model.specs.Store.{database}
use Rattle.tau_core.proofs.ShardRows.{take_one, own_one}
use Rattle.tau_core.proofs.tables.put_if_own.Goals as goal

pub returns : goal.returns
returns c = on_ok_weaker c.write.result (λ ok r e.
    let read = slice_get_read c.args.rows.now (length c.args.rows.now) c.args.i c.index-rows-i.result refl c.requires c.index-rows-i.is in
    let same : c.index-rows-i.result ≡ r = (let f : Some c.index-rows-i.result ≡ Some r = sym read ∙ e in cc) in
    let there : c.from.result ≡ c.args.number = omega arith in
    let own : shard_number r.0 ≡ c.args.number = ap (λ (w : Key × Value). shard_number w.0) (sym same) ∙ sym (c.from.ensures ∙ c.shard_of.ensures.same) ∙ there in
    ok ∙ ap (λ (l : List (Key × Value)). written l (database c.args.store.now)) (take_one c.args.rows.now c.args.i r e) ∙ own_one c.args.number r (database c.args.store.now) own) c.write.ensures.ok
