use Rattle.std.proofs.Common.{ℕ, ap, subst, sym, ◌∙◌}
use Rattle.std.specs.Prelude.{is_some}
use Rattle.tau_core.specs.State.{Plain}
use Rattle.tau_desk.specs.Seats.{IsWorkerSeat}
use Rattle.tau_txn.specs.Txn.{PlainTxn, has_joined}
use Rattle.tau_desk.specs.Acts.{HasFirstFreed}
use Rattle.tau_desk.proofs.GoingOn.{work_at}
use Rattle.tau_desk.proofs.WorkerReading.{seat_first}
use Rattle.tau_desk.proofs.seat.WorkerSeat.first_free.Goals as goal

pub first_free-requires-clause-list : goal.first_free-requires-clause-list
first_free-requires-clause-list g c =
    let origin : Plain = c.args.desk.now.table.shared.key.value in
    let opened = ap (λ x. x.seat.me.0.opened) c.self-inside.view_is ∙ ap (λ v. v.me.0.opened) c.self.view_is ∙ c.requires.opened in
    let s = subst (λ x. IsWorkerSeat x.seat.me x.worker x.work (x.anchor, x.anchor_lv) x.seen) (sym c.self-inside.view_is) c.self.invariant in
    (work_at origin _ _ _ _ _ opened s).fits.commits (ap (λ (t : PlainTxn). is_some t.hand) (sym c.deref.ensures) ∙ sym c.in_hand.ensures ∙ c.if-not-in_hand.false) (ap (λ x. has_joined x.work.txn) c.self-inside.view_is ∙ ap (λ v. has_joined v.work.txn) c.self.view_is ∙ c.requires.unjoined)

pub invariant_of-self-2 : goal.invariant_of-self-2
invariant_of-self-2 g c =
    let origin : Plain = c.args.desk.now.table.shared.key.value in
    let opened = ap (λ x. x.seat.me.0.opened) c.self-inside.view_is ∙ ap (λ v. v.me.0.opened) c.self.view_is ∙ c.requires.opened in
    let s = subst (λ x. IsWorkerSeat x.seat.me x.worker x.work (x.anchor, x.anchor_lv) x.seen) (sym c.self-inside.view_is) c.self.invariant in
    let room : ℕ = c.first_free.new.committed.room in
    let step = c.first_free.ensures.step c.if-not-first_free.false in
    seat_first origin _ c.first_free.new.seat.me _ _ c.first_free.new.txn step.0 c.first_free.new.committed.items room _ _ opened s step.1.0 step.2
    (subst (λ (t : PlainTxn). HasFirstFreed origin.load.procs t c.first_free.new.txn step.0) c.deref_mut.ensures.value step.1.1)
