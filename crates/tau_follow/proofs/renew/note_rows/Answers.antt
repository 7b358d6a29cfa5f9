-- One more write at the front.
use Rattle.std.proofs.Common.{◌≡◌, ◌-◌, ◌∷◌, drop, refl, ◌∙◌, arith}
use Rattle.tau_model.proofs.Places.{drop_before}
use Rattle.tau_follow.proofs.renew.note_rows.Goals as goal

pub loop-at-preserved : goal.loop-at-preserved
loop-at-preserved c = λ db.
    (let more : drop (c.loop-at.at - 1) c.args.rows.now ≡ c.index-rows-at.result ∷ drop c.loop-at.at c.args.rows.now =
    drop_before c.args.rows.now c.loop-at.at c.index-rows-at.result (omega arith) (omega arith) c.index-rows-at.is in
    c.in-Ok.ensures db ∙ rw (c.copied.ensures, c.loop-at.invariant db, more) refl)
