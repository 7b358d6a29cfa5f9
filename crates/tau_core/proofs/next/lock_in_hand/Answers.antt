use Rattle.std.proofs.Common.{ℕ, ◌≡◌, refl, sym, ap, subst, ◌∙◌, Option}
use Rattle.std.specs.Prelude.{Some}
use Rattle.tau_base.specs.declared.value.Key.{Key}
use Rattle.tau_base.specs.declared.value.Mode.{Mode}
use Rattle.tau_txn.specs.declared.action.Action.{Action}
use Rattle.tau_txn.specs.Txn.{hand_in}
use Rattle.tau_txn.specs.Next.{next_action, kind_of, lock_by, Locks, Means}
use Rattle.tau_core.specs.Plain.{PlainSeat}
use Rattle.tau_core.specs.Phases.{hand_phase}
use Rattle.tau_core.specs.NextLock.{IsAt, TellsHand}
use Rattle.tau_core.proofs.PhaseLaws.{means_phase}
use Rattle.tau_core.proofs.Found.{seat_in, found_seat}
use Rattle.tau_core.proofs.Elsewhere.{elsewhere_lock}
use Rattle.tau_core.proofs.ActionKinds.{lock_kind}
use Rattle.tau_core.proofs.Joins.{number_hand}
use Rattle.tau_core.proofs.next.lock_in_hand.Goals as goal

pub returns-in-Lock : goal.returns-in-Lock
returns-in-Lock c = λ s e.
    let is = found_seat c.args.state.now c.args.worker c.index-seat.result.now c.seat.inside c.requires.sound c.requires.there c.index-seat.ensures c.seat.view_is in
    let o = c.requires.sound.seat c.args.worker (seat_in c.seat.inside) is in
    let same : seat_in c.seat.inside ≡ s = (let f : Some (seat_in c.seat.inside) ≡ Some s = sym is ∙ e in cc) in
    let at = lock_kind (next_action c.seat.inside.txn) (sym c.kind.ensures.kind ∙ c.in-Lock.is) in
    let means : Locks c.args.state.now.load.procs c.seat.inside.txn at.0 at.1 =
    subst (λ (a : Action). Means c.args.state.now.load.procs c.seat.inside.txn a) at.2 (c.kind.ensures.means c.args.state.now.load.procs o.txn.runs) in
    let told : c.next_lock.result ≡ Some (means.hand.call.number, at.0, at.1) = c.next_lock.ensures ∙ (λ i. lock_by (number_hand c.args.state.now.load.procs c.seat.inside.txn means.hand means.is i) (at.2 i)) in
    subst (λ (r : Option (ℕ × Key × Mode)). TellsHand c.args.state.now.load.procs (hand_in c.args.state.now.load.procs s.txn) r) (sym told)
    (subst (λ (x : PlainSeat). IsAt c.args.state.now.load.procs (hand_in c.args.state.now.load.procs x.txn) (means.hand.call.number, at.0, at.1)) same
    (record { hand = means.hand; is = means.is; phase = means.phase; number = refl; next = means.next }))

pub returns-in_default : goal.returns-in_default
returns-in_default c = λ s e f.
    let is = found_seat c.args.state.now c.args.worker c.index-seat.result.now c.seat.inside c.requires.sound c.requires.there c.index-seat.ensures c.seat.view_is in
    let same : seat_in c.seat.inside ≡ s = (let g : Some (seat_in c.seat.inside) ≡ Some s = sym is ∙ e in cc) in
    let o = c.requires.sound.seat c.args.worker (seat_in c.seat.inside) is in
    let next : Action = next_action c.seat.inside.txn in
    let phase = means_phase c.args.state.now.load.procs c.seat.inside.txn next (c.kind.ensures.means c.args.state.now.load.procs o.txn.runs) o.txn.leaving o.txn.stays in
    elsewhere_lock next (λ x m g. c.in_default.not-Lock (c.kind.ensures.kind ∙ ap kind_of g)) (sym phase ∙ ap (λ (x : PlainSeat). hand_phase c.args.state.now.load.procs (hand_in c.args.state.now.load.procs x.txn)) same ∙ f)
