use Rattle.std.proofs.Common.{◌≡◌, true, rules, ap, subst, sym, ◌∙◌}
use Rattle.std.specs.Prelude.{is_some}
use Rattle.tau_txn.specs.Txn.{PlainTxn, has_joined}
use Rattle.tau_core.specs.State.{Plain}
use Rattle.tau_desk.specs.Acts.{HasFreed}
use Rattle.tau_desk.specs.Seats.{IsWorkerSeat}
use Rattle.tau_desk.proofs.Peeking.{ready_of}
use Rattle.tau_desk.proofs.GoingOn.{seat_freed}
use Rattle.tau_desk.proofs.seat.WorkerSeat.free.Goals as goal

pub free-requires-clause-ready : goal.free-requires-clause-ready
free-requires-clause-ready g c =
    let origin : Plain = c.args.desk.now.table.shared.key.value in
    let opened = ap (λ x. x.seat.me.0.opened) c.self-inside.view_is ∙ ap (λ v. v.me.0.opened) c.self.view_is ∙ c.requires.opened in
    let s = subst (λ x. IsWorkerSeat x.seat.me x.worker x.work (x.anchor, x.anchor_lv) x.seen) (sym c.self-inside.view_is) c.self.invariant in
    let hand : is_some c.deref_mut.result.now.hand ≡ true = search rules in
    ready_of origin _ _ _ _ _ _ opened s c.deref_mut.ensures.value hand

pub invariant_of-self : goal.invariant_of-self
invariant_of-self g c =
    let origin : Plain = c.args.desk.now.table.shared.key.value in
    let opened = ap (λ x. x.seat.me.0.opened) c.self-inside.view_is ∙ ap (λ v. v.me.0.opened) c.self.view_is ∙ c.requires.opened in
    let s = subst (λ x. IsWorkerSeat x.seat.me x.worker x.work (x.anchor, x.anchor_lv) x.seen) (sym c.self-inside.view_is) c.self.invariant in
    seat_freed origin _ c.free.new.seat.me _ _ c.free.new.txn _ _ opened s c.in-Went.ensures.step.0 (ap (λ x. has_joined x.work.txn) c.self-inside.view_is ∙ ap (λ v. has_joined v.work.txn) c.self.view_is ∙ c.requires.joined)
    (subst (λ (t : PlainTxn). HasFreed origin.load.procs t c.free.new.txn) c.deref_mut.ensures.value c.in-Went.ensures.step.1)
