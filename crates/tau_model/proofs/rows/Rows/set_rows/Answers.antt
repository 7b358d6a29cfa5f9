-- One more row at the front.
use Rattle.std.proofs.Common.{◌≡◌, ◌-◌, ◌∷◌, drop, refl, ◌∙◌, arith}
use Rattle.tau_model.proofs.Places.{drop_before}
use Rattle.tau_model.proofs.rows.Rows.set_rows.Goals as goal

pub loop-i-preserved : goal.loop-i-preserved
loop-i-preserved c =
    let more : drop (c.loop-i.i - 1) c.args.writes.now ≡ c.index-writes-i.result ∷ drop c.loop-i.i c.args.writes.now =
    drop_before c.args.writes.now c.loop-i.i c.index-writes-i.result (omega arith) (omega arith) c.index-writes-i.is in record {
      set = c.set_row.ensures.set ∙ rw (c.loop-i.invariant.set, more) refl;
      room = omega arith;
    }
