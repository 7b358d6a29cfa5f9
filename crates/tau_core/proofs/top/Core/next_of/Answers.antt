use Rattle.std.proofs.Common.{◌<◌, ◌≡◌, List, sym, ap, subst, ◌∙◌}
use Rattle.tau_model.specs.History.{Act}
use Rattle.tau_machine.specs.Hands.{Txn}
use Rattle.tau_machine.specs.Worker.{Worker}
use Rattle.tau_machine.specs.State.{hand_of}
use Rattle.tau_txn.specs.declared.action.Action.{Action}
use Rattle.tau_txn.specs.Next.{next_action}
use Rattle.tau_core.specs.declared.state.State.{State}
use Rattle.tau_core.specs.State.{Plain, plain}
use Rattle.tau_core.specs.View.{Hidden, core_of}
use Rattle.tau_core.specs.Stands.{Stands}
use Rattle.tau_core.specs.Phases.{hand_phase, phase_of_kind}
use Rattle.tau_core.proofs.ActionKinds.{phase_kind}
use Rattle.tau_core.proofs.Found.{seat_in, found_seat}
use Rattle.tau_core.proofs.PhaseLaws.{means_phase}
use Rattle.tau_core.proofs.Seats.{worker_of_seat}
use Rattle.tau_core.proofs.top.Core.next_of.Goals as goal

pub returns : goal.returns
returns c = subst (λ (p : Plain). (K : List (Act Txn)) (h : Hidden) → Stands p K h → c.phase_of_kind.result ≡ hand_phase p.load.procs (hand_of (core_of p h) c.args.worker)) c.self.view_is (λ K h g.
    let s : State = c.self.inside.state in
    let there : c.args.worker < s.load.workers = subst (λ (p : Plain). c.args.worker < p.load.workers) (sym c.self.view_is) c.requires.there in
    let is = found_seat s c.args.worker c.index-seat.result.now c.seat.inside g.sound there c.index-seat.ensures c.seat.view_is in
    let o = g.sound.seat c.args.worker (seat_in c.seat.inside) is in
    let next : Action = next_action c.seat.inside.txn in
    let phase = means_phase s.load.procs c.seat.inside.txn next (c.kind.ensures.means s.load.procs o.txn.runs) o.txn.leaving o.txn.stays in
    c.phase_of_kind.ensures ∙ ap phase_of_kind c.kind.ensures.kind ∙ sym (phase_kind next) ∙ sym phase ∙ ap (λ (x : Worker). hand_phase s.load.procs x.hand) (sym (worker_of_seat (plain s) h c.args.worker (seat_in c.seat.inside) (seat_in c.seat.inside) is)))
