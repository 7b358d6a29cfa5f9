use Rattle.std.proofs.Common.{ℕ, ap, subst, sym, ◌∙◌}
use Rattle.tau_core.specs.State.{Plain}
use Rattle.tau_desk.specs.Seats.{IsWorkerSeat}
use Rattle.tau_txn.specs.Next.{kind_of, next_action}
use Rattle.tau_txn.specs.Txn.{PlainTxn, has_joined}
use Rattle.tau_desk.specs.Acts.{HasEndedReading}
use Rattle.tau_desk.proofs.GoingOn.{work_at}
use Rattle.tau_desk.proofs.WorkerReading.{ended_room, seat_read}
use Rattle.tau_desk.proofs.seat.WorkerSeat.done_reading.Goals as goal

pub done_reading-requires-clause-list : goal.done_reading-requires-clause-list
done_reading-requires-clause-list g c =
    let origin : Plain = c.args.desk.now.table.shared.key.value in
    let opened = ap (λ x. x.seat.me.0.opened) c.self-inside.view_is ∙ ap (λ v. v.me.0.opened) c.self.view_is ∙ c.requires.opened in
    let s = subst (λ x. IsWorkerSeat x.seat.me x.worker x.work (x.anchor, x.anchor_lv) x.seen) (sym c.self-inside.view_is) c.self.invariant in
    ended_room origin.load _ _ (work_at origin _ _ _ _ _ opened s).fits (ap (λ x. kind_of (next_action x.work.txn)) c.self-inside.view_is ∙ ap (λ v. kind_of (next_action v.work.txn)) c.self.view_is ∙ c.requires.next)
    (ap (λ x. has_joined x.work.txn) c.self-inside.view_is ∙ ap (λ v. has_joined v.work.txn) c.self.view_is ∙ c.requires.unjoined)

pub invariant_of-self : goal.invariant_of-self
invariant_of-self g c =
    let origin : Plain = c.args.desk.now.table.shared.key.value in
    let opened = ap (λ x. x.seat.me.0.opened) c.self-inside.view_is ∙ ap (λ v. v.me.0.opened) c.self.view_is ∙ c.requires.opened in
    let s = subst (λ x. IsWorkerSeat x.seat.me x.worker x.work (x.anchor, x.anchor_lv) x.seen) (sym c.self-inside.view_is) c.self.invariant in
    let room : ℕ = c.done_reading.new.committed.room in
    let step = c.done_reading.ensures.step in
    seat_read origin _ c.done_reading.new.seat.me _ _ c.done_reading.new.txn step.0 c.done_reading.new.committed.items (c.done_reading.new.room.records, c.done_reading.new.room.calls) room _ _ opened s step.1.0 step.2
    (subst (λ (t : PlainTxn). HasEndedReading origin.load.procs t c.done_reading.new.txn step.0) c.deref_mut.ensures.value step.1.1)
