use Rattle.std.proofs.Common.{ℕ, refl, sym, ap, subst, ◌∙◌}
use Rattle.tau_txn.specs.declared.action.Action.{Action}
use Rattle.tau_txn.specs.Next.{IsLock}
use Rattle.tau_machine.specs.Worker.{hand_busy, settled}
use Rattle.tau_core.proofs.Found.{seat_in, found_seat}
use Rattle.tau_core.proofs.Hands.{some_hand}
use Rattle.tau_core.proofs.Leaving.{leaving}
use Rattle.tau_core.proofs.retry.give_way.Goals as goal

pub busy-requires-clause-lock : goal.busy-requires-clause-lock
busy-requires-clause-lock c =
    let is = found_seat c.args.state.now c.args.worker c.index_mut-seat.result.now c.seat.inside c.requires.sound c.requires.there c.index_mut-seat.ensures.value c.seat.view_is in
    let wants = c.requires.wants (seat_in c.seat.inside) is in
    subst (λ (a : Action). IsLock a) (sym wants.2) tt

pub busy-requires-clause-run : goal.busy-requires-clause-run
busy-requires-clause-run c =
    let is = found_seat c.args.state.now c.args.worker c.index_mut-seat.result.now c.seat.inside c.requires.sound c.requires.there c.index_mut-seat.ensures.value c.seat.view_is in
    (c.requires.sound.seat c.args.worker (seat_in c.seat.inside) is).txn.runs

pub leave-requires-clause-room : goal.leave-requires-clause-room
leave-requires-clause-room c =
    let is = found_seat c.args.state.now c.args.worker c.index_mut-seat.result.now c.seat.inside c.requires.sound c.requires.there c.index_mut-seat.ensures.value c.seat.view_is in
    let o = c.requires.sound.seat c.args.worker (seat_in c.seat.inside) is in
    let m = (c.requires.wants (seat_in c.seat.inside) is).3 in
    λ e. o.store.leaves (some_hand c.args.state.now.load.procs c.seat.inside.txn m.hand m.is)

pub returns : goal.returns
returns c =
    let is = found_seat c.args.state.now c.args.worker c.index_mut-seat.result.now c.seat.inside c.requires.sound c.requires.there c.index_mut-seat.ensures.value c.seat.view_is in
    let o = c.requires.sound.seat c.args.worker (seat_in c.seat.inside) is in
    let wants = c.requires.wants (seat_in c.seat.inside) is in
    let m = wants.3 in
    let settles = leaving c.args.state.now.load c.args.worker (seat_in c.seat.inside) c.leave.new.seat m.hand (hand_busy m.hand) c.busy.new.self o m.is refl refl c.busy.ensures.same
    (λ wk. c.busy.ensures.busy wk m.hand m.is ∙ ap (λ (n : ℕ). settled n wk (hand_busy m.hand)) o.txn.width) c.busy.ensures.runs (c.busy.ensures.stays o.txn.leaving) c.leave.ensures in
    record {
      seat = seat_in c.seat.inside;
      hand = m.hand;
      key = wants.0;
      mode = wants.1;
      new = c.leave.new.seat;
      is = is;
      wants = record { is = m.is; phase = m.phase; next = m.next };
      settles = settles.worker;
      keeps = settles.keeps;
      sound = settles.sound;
      after = refl;
    }
