use Rattle.std.proofs.Common.{◌≡◌, refl, sym, ap, subst, ◌∙◌}
use Rattle.std.specs.Prelude.{Some}
use Rattle.tau_base.specs.declared.value.Value.TheVariants.{Absent}
use Rattle.tau_txn.specs.declared.action.Action.{Action}
use Rattle.tau_txn.specs.declared.action.Action.TheVariants as action
use Rattle.tau_txn.specs.Next.{next_action, Locks}
use Rattle.tau_core.specs.Plain.{PlainSeat}
use Rattle.tau_txn.specs.Txn.{hand_in}
use Rattle.tau_core.specs.Phases.{hand_phase, phase_of_kind}
use Rattle.tau_core.proofs.PhaseLaws.{means_phase}
use Rattle.tau_core.proofs.Found.{seat_in, found_seat}
use Rattle.tau_core.proofs.Elsewhere.{elsewhere_lock}
use Rattle.tau_core.proofs.ActionKinds.{phase_kind}
use Rattle.tau_core.proofs.lock.lock_next.Goals as goal

pub take_lock-requires-clause-wants : goal.take_lock-requires-clause-wants
take_lock-requires-clause-wants c = λ s e.
    let is = found_seat c.args.state.now c.args.worker c.index-seat.result.now c.seat.inside c.requires.sound c.requires.there c.index-seat.ensures c.seat.view_is in
    let o = c.requires.sound.seat c.args.worker (seat_in c.seat.inside) is in
    let same : seat_in c.seat.inside ≡ s = (let f : Some (seat_in c.seat.inside) ≡ Some s = sym is ∙ e in cc) in
    subst (λ (x : PlainSeat). (next_action x.txn ≡ action.Lock c.in-Some.key c.in-Some.mode) × Locks c.args.state.now.load.procs x.txn c.in-Some.key c.in-Some.mode) same
    (c.in-Some.ensures.next, c.in-Some.ensures.means c.args.state.now.load.procs o.txn.runs)

pub returns-in-None : goal.returns-in-None
returns-in-None c = record {
  value = Absent;
  is = (
    refl,
    λ s e.
        let is = found_seat c.args.state.now c.args.worker c.index-seat.result.now c.seat.inside c.requires.sound c.requires.there c.index-seat.ensures c.seat.view_is in
        let same : seat_in c.seat.inside ≡ s = (let f : Some (seat_in c.seat.inside) ≡ Some s = sym is ∙ e in cc) in
        let o = c.requires.sound.seat c.args.worker (seat_in c.seat.inside) is in
        let next : Action = next_action c.seat.inside.txn in
        let phase = means_phase c.args.state.now.load.procs c.seat.inside.txn next (c.kind.ensures.means c.args.state.now.load.procs o.txn.runs) o.txn.leaving o.txn.stays in
        let told = ap phase_of_kind c.kind.ensures.kind ∙ sym (phase_kind next) in
        (told ∙ sym phase ∙ ap (λ (x : PlainSeat). hand_phase c.args.state.now.load.procs (hand_in c.args.state.now.load.procs x.txn)) same, λ f. elsewhere_lock next c.in-None.ensures.other (sym told ∙ f)),
  );
}
