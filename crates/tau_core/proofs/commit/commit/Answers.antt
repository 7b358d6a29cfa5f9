use Rattle.std.proofs.Common.{◌≡◌, refl, sym, ap, subst, ◌∙◌}
use Rattle.std.specs.Prelude.{Some}
use Rattle.tau_txn.specs.declared.action.Action.{Action}
use Rattle.tau_txn.specs.declared.action.Action.TheVariants as action
use Rattle.tau_txn.specs.Next.{next_action, Means}
use Rattle.tau_core.specs.Plain.{PlainSeat}
use Rattle.tau_txn.specs.Txn.{hand_in}
use Rattle.tau_core.specs.Phases.{hand_phase, phase_of_kind}
use Rattle.tau_core.proofs.PhaseLaws.{means_phase}
use Rattle.tau_core.proofs.Found.{seat_in, found_seat}
use Rattle.tau_core.proofs.ActionKinds.{phase_kind, commit_kind, elsewhere_commit}
use Rattle.tau_core.proofs.commit.commit.Goals as goal

pub place-requires-clause-at : goal.place-requires-clause-at
place-requires-clause-at c = λ s e.
    let is = found_seat c.args.state.now c.args.worker c.index-seat.result.now c.seat.inside c.requires.sound c.requires.there c.index-seat.ensures c.seat.view_is in
    let o = c.requires.sound.seat c.args.worker (seat_in c.seat.inside) is in
    let same : seat_in c.seat.inside ≡ s = (let f : Some (seat_in c.seat.inside) ≡ Some s = sym is ∙ e in cc) in
    let at = commit_kind (next_action c.seat.inside.txn) (sym c.kind.ensures.kind ∙ c.in-Commit.is) in
    let means = subst (λ (a : Action). Means c.args.state.now.load.procs c.seat.inside.txn a) at.1 (c.kind.ensures.means c.args.state.now.load.procs o.txn.runs) in
    (at.0, ap (λ (x : PlainSeat). next_action x.txn) (sym same) ∙ at.1, subst (λ (x : PlainSeat). Means c.args.state.now.load.procs x.txn (action.Commit at.0)) same means)

pub returns-in_default : goal.returns-in_default
returns-in_default c = (
  refl,
  λ s e.
      let is = found_seat c.args.state.now c.args.worker c.index-seat.result.now c.seat.inside c.requires.sound c.requires.there c.index-seat.ensures c.seat.view_is in
      let same : seat_in c.seat.inside ≡ s = (let f : Some (seat_in c.seat.inside) ≡ Some s = sym is ∙ e in cc) in
      let o = c.requires.sound.seat c.args.worker (seat_in c.seat.inside) is in
      let next : Action = next_action c.seat.inside.txn in
      let phase = means_phase c.args.state.now.load.procs c.seat.inside.txn next (c.kind.ensures.means c.args.state.now.load.procs o.txn.runs) o.txn.leaving o.txn.stays in (
        ap phase_of_kind c.kind.ensures.kind ∙ sym (phase_kind next) ∙ sym phase ∙ ap (λ (x : PlainSeat). hand_phase c.args.state.now.load.procs (hand_in c.args.state.now.load.procs x.txn)) same,
        λ f. elsewhere_commit c.kind.result c.in_default.not-Commit f,
      ),
)
