use Rattle.std.proofs.Common.{ap, subst, sym, ◌∙◌}
use Rattle.tau_core.specs.State.{Plain}
use Rattle.tau_txn.specs.Txn.{PlainTxn}
use Rattle.tau_desk.specs.Acts.{HasEnded}
use Rattle.tau_desk.specs.Seats.{IsWorkerSeat}
use Rattle.tau_desk.proofs.GoingOn.{seat_ended}
use Rattle.tau_desk.proofs.seat.WorkerSeat.done.Goals as goal

pub invariant_of-self : goal.invariant_of-self
invariant_of-self g c =
    let origin : Plain = c.args.desk.now.table.shared.key.value in
    let opened = ap (λ x. x.seat.me.0.opened) c.self-inside.view_is ∙ ap (λ v. v.me.0.opened) c.self.view_is ∙ c.requires.opened in
    let s = subst (λ x. IsWorkerSeat x.seat.me x.worker x.work (x.anchor, x.anchor_lv) x.seen) (sym c.self-inside.view_is) c.self.invariant in
    seat_ended origin _ c.done.new.seat.me _ _ c.done.new.txn (c.done.new.room.records, c.done.new.room.calls) _ _ opened s c.done.ensures.step
    (subst (λ (t : PlainTxn). HasEnded origin.load.procs t c.done.new.txn) c.deref_mut.ensures.value c.done.ensures.call)
