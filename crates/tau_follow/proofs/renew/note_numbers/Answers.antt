-- One more number at the front.
use Rattle.std.proofs.Common.{◌≡◌, ◌-◌, drop-cons, refl, sym, suc, ◌∙◌, arith}
use Rattle.std.specs.Prelude.{pos}
use Rattle.tau_follow.proofs.renew.note_numbers.Goals as goal

pub loop-at-preserved : goal.loop-at-preserved
loop-at-preserved c = λ db.
    (let e : c.loop-at.at ≡ suc (c.loop-at.at - 1) = omega arith in
    let more = drop-cons c.args.numbers.now (c.loop-at.at - 1) (record { table = 0; row = pos 0 }, pos 0) (omega arith) in
    c.in-Ok.ensures db ∙ rw (c.loop-at.invariant db, more, ← sym e) refl)
