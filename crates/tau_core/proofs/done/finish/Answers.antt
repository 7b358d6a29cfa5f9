use Rattle.std.proofs.Common.{◌≡◌, sym, ap, ◌∙◌}
use Rattle.std.specs.Prelude.{Some}
use Rattle.tau_txn.specs.Txn.{has_joined}
use Rattle.tau_core.specs.Plain.{PlainSeat}
use Rattle.tau_core.proofs.Found.{seat_in, found_seat}
use Rattle.tau_core.proofs.done.finish.Goals as goal

pub finish_on-requires-clause-joined : goal.finish_on-requires-clause-joined
finish_on-requires-clause-joined c = λ s e.
    let is = found_seat c.args.state.now c.args.worker c.index-seat.result.now c.seat.inside c.requires.sound c.requires.there c.index-seat.ensures c.seat.view_is in
    let same : seat_in c.seat.inside ≡ s = (let f : Some (seat_in c.seat.inside) ≡ Some s = sym is ∙ e in cc) in
    ap (λ (x : PlainSeat). has_joined x.txn) (sym same) ∙ sym c.has_joined-joined.ensures ∙ c.if-joined.true

pub finish_first-requires-clause-joined : goal.finish_first-requires-clause-joined
finish_first-requires-clause-joined c = λ s e.
    let is = found_seat c.args.state.now c.args.worker c.index-seat.result.now c.seat.inside c.requires.sound c.requires.there c.index-seat.ensures c.seat.view_is in
    let same : seat_in c.seat.inside ≡ s = (let f : Some (seat_in c.seat.inside) ≡ Some s = sym is ∙ e in cc) in
    ap (λ (x : PlainSeat). has_joined x.txn) (sym same) ∙ sym c.has_joined-joined.ensures ∙ c.if-joined.false
