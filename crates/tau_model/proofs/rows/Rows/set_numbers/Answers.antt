-- One more row at the front.
use Rattle.std.proofs.Common.{◌≡◌, ◌-◌, ◌+◌, ◌∷◌, ℕ, ap, drop, drop-cons, refl, sym, suc, ◌∙◌, arith}
use Rattle.std.specs.Prelude.{pos}
use Rattle.tau_model.proofs.rows.Rows.set_numbers.Goals as goal

pub loop-place-preserved : goal.loop-place-preserved
loop-place-preserved c =
    let e : c.loop-place.place ≡ suc (c.loop-place.place - 1) = omega arith in
    let more = drop-cons c.args.writes.now (c.loop-place.place - 1) (record { table = 0; row = pos 0 }, pos 0) (omega arith) in record {
      set = c.set_number.ensures.set ∙ rw (c.loop-place.invariant.set, more, ← sym e) refl;
      room = omega arith;
    }
