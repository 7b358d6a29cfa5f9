use Rattle.std.proofs.Common.{ap, subst, sym, ◌∙◌}
use Rattle.tau_core.specs.State.{Plain}
use Rattle.tau_txn.specs.Txn.{PlainTxn}
use Rattle.tau_desk.specs.Acts.{HasPosted}
use Rattle.tau_desk.specs.Seats.{IsWorkerSeat}
use Rattle.tau_desk.proofs.GoingOn.{seat_posted}
use Rattle.tau_desk.proofs.seat.WorkerSeat.post.Goals as goal

pub invariant_of-self : goal.invariant_of-self
invariant_of-self g c =
    let origin : Plain = c.args.desk.now.table.shared.key.value in
    let opened = ap (λ x. x.seat.me.0.opened) c.self-inside.view_is ∙ ap (λ v. v.me.0.opened) c.self.view_is ∙ c.requires.opened in
    let s = subst (λ x. IsWorkerSeat x.seat.me x.worker x.work (x.anchor, x.anchor_lv) x.seen) (sym c.self-inside.view_is) c.self.invariant in
    seat_posted origin _ c.post.new.seat.me _ _ c.post.new.txn (c.post.new.room.records, c.post.new.room.calls) _ _ opened s c.post.ensures.step c.post.ensures.room.1
    (subst (λ (t : PlainTxn). HasPosted origin.load.procs t c.post.new.txn) c.deref_mut.ensures.value c.post.ensures.call)
