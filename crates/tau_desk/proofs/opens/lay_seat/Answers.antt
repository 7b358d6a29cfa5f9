use Rattle.std.proofs.Common.{◌≡◌, ap, sym, ◌∙◌}
use Rattle.tau_core.specs.Plain.{PlainSeat}
use Rattle.tau_desk.specs.Laid.{work_of}
use Rattle.tau_desk.proofs.opens.lay_seat.Goals as goal

pub returns : goal.returns
returns c =
    let txn : c.in_ok-txn.txn.value ≡ c.args.seat.txn = c.in_ok-txn.ensures.ok ∙ ap (λ (s : PlainSeat). s.txn) c.seat.view_is in
    let put = c.in_ok-put_box.ensures in (
      put.0,
      0,
      put.1,
      put.2 c.args.seat (ap (λ (s : PlainSeat). s.outbox) (sym c.seat.view_is)) (ap (λ (s : PlainSeat). s.pending) (sym c.seat.view_is)),
      λ i. record (work_of (c.seat.view_is i) 0) { txn = txn i; committed = (c.new-2.ensures i).items; committed_room = (c.new-2.ensures i).room },
    )
