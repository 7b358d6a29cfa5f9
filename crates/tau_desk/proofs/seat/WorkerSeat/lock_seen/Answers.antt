use Rattle.std.proofs.Common.{◌≡◌, true, rules, ap, subst, sym, ◌∙◌}
use Rattle.std.specs.Prelude.{is_some}
use Rattle.tau_core.specs.State.{Plain}
use Rattle.tau_txn.specs.Txn.{PlainTxn}
use Rattle.tau_desk.specs.Acts.{HasLocked, HasMetBusy}
use Rattle.tau_desk.specs.Seats.{IsWorkerSeat}
use Rattle.tau_desk.proofs.Peeking.{ready_of, went_on, busy_on}
use Rattle.tau_desk.proofs.GoingOn.{seat_busy, seat_locked}
use Rattle.tau_desk.proofs.seat.WorkerSeat.lock_seen.Goals as goal

pub lock_seen-requires-clause-ready : goal.lock_seen-requires-clause-ready
lock_seen-requires-clause-ready g c =
    let origin : Plain = c.args.desk.now.table.shared.key.value in
    let opened = ap (λ x. x.seat.me.0.opened) c.self-inside.view_is ∙ ap (λ v. v.me.0.opened) c.self.view_is ∙ c.requires.opened in
    let s = subst (λ x. IsWorkerSeat x.seat.me x.worker x.work (x.anchor, x.anchor_lv) x.seen) (sym c.self-inside.view_is) c.self.invariant in
    let hand : is_some c.deref_mut.result.now.hand ≡ true = search rules in
    ready_of origin _ _ _ _ _ _ opened s c.deref_mut.ensures.value hand

pub invariant_of-self : goal.invariant_of-self
invariant_of-self g c =
    let origin : Plain = c.args.desk.now.table.shared.key.value in
    let opened = ap (λ x. x.seat.me.0.opened) c.self-inside.view_is ∙ ap (λ v. v.me.0.opened) c.self.view_is ∙ c.requires.opened in
    let s = subst (λ x. IsWorkerSeat x.seat.me x.worker x.work (x.anchor, x.anchor_lv) x.seen) (sym c.self-inside.view_is) c.self.invariant in
    seat_locked origin _ c.lock_seen.new.seat.me _ _ c.lock_seen.new.txn _ _ opened s c.in-Went.ensures.step.0
    (subst (λ (t : PlainTxn). HasLocked origin.load.procs t c.lock_seen.new.txn) c.deref_mut.ensures.value c.in-Went.ensures.step.1)

pub invariant_of-self-in-Busy : goal.invariant_of-self-in-Busy
invariant_of-self-in-Busy g c =
    let origin : Plain = c.args.desk.now.table.shared.key.value in
    let opened = ap (λ x. x.seat.me.0.opened) c.self-inside.view_is ∙ ap (λ v. v.me.0.opened) c.self.view_is ∙ c.requires.opened in
    let s = subst (λ x. IsWorkerSeat x.seat.me x.worker x.work (x.anchor, x.anchor_lv) x.seen) (sym c.self-inside.view_is) c.self.invariant in
    seat_busy origin _ c.lock_seen.new.seat.me _ _ c.lock_seen.new.txn _ _ opened s c.in-Busy.ensures.step.0 c.leave.new.work
    (subst (λ (t : PlainTxn). HasMetBusy origin.load.procs t c.lock_seen.new.txn) c.deref_mut.ensures.value c.in-Busy.ensures.step.1) c.leave.ensures

pub returns-in-Went-clause-step : goal.returns-in-Went-clause-step
returns-in-Went-clause-step g c =
    went_on c.args.desk.now.table.shared.key.value c.args.peeker.now.seen c.args.self.now _ c.lock_seen.new.txn (record { me = search rules; leaves = search rules; others = search rules })
    c.self-inside.inside.0.0.me c.self-inside.inside.0.1.0 c.deref_mut.result.now (search rules) (search rules) (search rules) c.in-Went.ensures.step.1 c.in-Went.ensures.step.2

pub returns-in-Busy-clause-step : goal.returns-in-Busy-clause-step
returns-in-Busy-clause-step g c =
    busy_on c.args.desk.now.table.shared.key.value c.args.peeker.now.seen c.args.self.now _ c.lock_seen.new.txn (record { me = search rules; leaves = search rules; others = search rules })
    c.self-inside.inside.0.0.me c.self-inside.inside.0.1.0 c.deref_mut.result.now (search rules) (search rules) (search rules) c.in-Busy.ensures.step.1 c.in-Busy.ensures.step.2
