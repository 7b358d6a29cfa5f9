-- One more row is written.
use Rattle.std.proofs.Common.{[], ◌∷◌, ◌+◌, subst, sym, take, arith}
use Rattle.tau_base.specs.Database.{Db, written}
use Rattle.tau_base.specs.declared.value.Key.{Key}
use Rattle.tau_base.specs.declared.value.Value.{Value}
use Rattle.tau_model.specs.Tables.{IsTablesOf}
use Rattle.tau_follow.specs.Renewing.{after}
use Rattle.tau_follow.proofs.Renewing.{after_all, after_one, got_at}
use Rattle.tau_follow.proofs.renew.write_each.Goals as goal

pub loop-i-preserved : goal.loop-i-preserved
loop-i-preserved c =
    let writes = c.args.writes.now in
    let w : Key × Value = c.index-writes-i.result in
    let there = got_at writes c.loop-i.i w (omega (arith, c.loop-i-test.true)) c.index-writes-i.is in
    let old = c.loop-i.invariant in
    let room = old.room in record {
      tables = λ db t.
          (subst (λ (d : Db). IsTablesOf d c.write_row.new.rows.items) (sym (after_one db writes c.loop-i.i w there))
          (subst (λ (v : Value). IsTablesOf (written ((w.0, v) ∷ []) (after (take c.loop-i.i writes) db)) c.write_row.new.rows.items) c.copied.ensures (c.write_row.ensures.tables (after (take c.loop-i.i writes) db) (old.tables db t))));
      room = (let r = c.write_row.ensures.room in omega (arith, r, room));
    }

pub returns : goal.returns
returns c = λ db t. (let old = c.loop-i.invariant in after_all db c.loop-i.rows.items c.args.writes.now c.loop-i.i (omega (arith, c.loop-i-test.false)) (old.tables db t))
