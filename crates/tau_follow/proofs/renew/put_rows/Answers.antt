-- One more row is put.
use Rattle.std.proofs.Common.{◌≡◌, ◌+◌, List, ap, set, subst, sym, take, ◌∙◌, arith}
use Rattle.std.specs.Prelude.{slice_get}
use Rattle.tau_base.specs.declared.value.Key.{Key}
use Rattle.tau_base.specs.declared.value.Value.{Value}
use Rattle.tau_model.specs.Tables.{IsTablesOf}
use Rattle.tau_follow.specs.Renewing.{after, keys_in, IsPut}
use Rattle.tau_follow.proofs.Renewing.{after_all, got_at, keys_stay, put_next}
use Rattle.tau_follow.proofs.renew.put_rows.Goals as goal

pub loop-i-preserved : goal.loop-i-preserved
loop-i-preserved c = λ db t a.
    (let rows : List (Key × Value) = c.loop-i.rows.items in
    let writes : List (Key × Value) = c.args.writes.now in
    let inv = c.loop-i.invariant db t a in
    let w : Key × Value = c.index-writes-i.result in
    let there = got_at writes c.loop-i.i w (omega (arith, c.loop-i-test.true)) c.index-writes-i.is in
    let is = a c.loop-i.i w there in
    let put : IsPut (keys_in rows) w c.place_at.result = (ap (λ (l : List Key). slice_get l c.place_at.result) inv.1 ∙ ap (slice_get (keys_in c.args.rows.now.items)) c.place_at.ensures ∙ is.0, is.1) in
    let then : c.put_row.new.rows.items ≡ set rows c.place_at.result w = c.put_row.ensures.put ∙ ap (λ (v : Value). set rows c.place_at.result (w.0, v)) c.copied.ensures in (
      subst (λ (l : List (Key × Value)). IsTablesOf (after (take (c.loop-i.i + 1) writes) db) l) (sym then) (put_next db rows writes c.loop-i.i c.place_at.result w there inv.0 put),
      ap keys_in then ∙ keys_stay rows c.place_at.result w put.0 ∙ inv.1,
    ))

pub returns : goal.returns
returns c = λ db t a. after_all db c.loop-i.rows.items c.args.writes.now c.loop-i.i (omega (arith, c.loop-i-test.false)) (c.loop-i.invariant db t a).0
