-- One more row at the front.
use Rattle.std.proofs.Common.{◌≡◌, ◌-◌, ◌∷◌, drop, refl, ◌∙◌, arith}
use Rattle.tau_model.proofs.Places.{drop_before}
use Rattle.tau_model.proofs.rows.Rows.set_rows_near.Goals as goal

pub loop-at-preserved : goal.loop-at-preserved
loop-at-preserved c =
    let more : drop (c.loop-at.at - 1) c.args.writes.now ≡ c.index-writes-at.result ∷ drop c.loop-at.at c.args.writes.now =
    drop_before c.args.writes.now c.loop-at.at c.index-writes-at.result (omega arith) (omega arith) c.index-writes-at.is in record {
      set = c.set_row_near.ensures.set ∙ rw (c.loop-at.invariant.set, more) refl;
      room = omega arith;
    }
