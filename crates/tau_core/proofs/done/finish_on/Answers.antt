use Rattle.std.proofs.Common.{◌≡◌, List, [], ◌∷◌, ◌++◌, refl, sym, ap, subst, ◌∙◌}
use Rattle.std.specs.Prelude.{Some, slice_set}
use Rattle.std.proofs.lemmas.List.{append-nil}
use Rattle.tau_model.specs.declared.committed.Committed.{Committed}
use Rattle.tau_txn.specs.declared.action.Action.{Action}
use Rattle.tau_txn.specs.Txn.{has_joined}
use Rattle.tau_txn.specs.Next.{IsForWent}
use Rattle.tau_machine.specs.Hands.{lv_of}
use Rattle.tau_core.specs.Plain.{PlainSeat}
use Rattle.tau_core.specs.State.{Plain, plain}
use Rattle.tau_core.proofs.Found.{seat_in, found_seat}
use Rattle.tau_core.proofs.Hands.{some_hand, hand_gone, sound_gone}
use Rattle.tau_core.proofs.Joins.{joins_on, freeing_on, number_freed, none_open, rooms_on}
use Rattle.tau_core.proofs.done.finish_on.Goals as goal

pub unreachable-requires : goal.unreachable-requires
unreachable-requires c =
    let is = found_seat c.args.state.now c.args.worker c.index_mut-seat.result.now c.seat.inside c.requires.sound c.requires.there c.index_mut-seat.ensures.value c.seat.view_is in
    let at = c.requires.at (seat_in c.seat.inside) is in
    let m = at.3 in
    c.in_default.not-Some m.act.call.call.number (c.number.ensures ∙ number_freed c.args.state.now.load.procs c.seat.inside.txn m.hand m.act m.is (freeing_on c.args.state.now.load.procs (has_joined c.seat.inside.txn) c.seat.inside.txn.worker m.hand m.act (c.requires.joined (seat_in c.seat.inside) is) m.act_is))

pub lv_ref-vector-requires : goal.lv_ref-vector-requires
lv_ref-vector-requires c =
    let is = found_seat c.args.state.now c.args.worker c.index_mut-seat.result.now c.seat.inside c.requires.sound c.requires.there c.index_mut-seat.ensures.value c.seat.view_is in
    let m = (c.requires.at (seat_in c.seat.inside) is).3 in
    some_hand c.args.state.now.load.procs c.seat.inside.txn m.hand m.is

pub put_from-requires : goal.put_from-requires
put_from-requires c =
    let is = found_seat c.args.state.now c.args.worker c.index_mut-seat.result.now c.seat.inside c.requires.sound c.requires.there c.index_mut-seat.ensures.value c.seat.view_is in
    let o = c.requires.sound.seat c.args.worker (seat_in c.seat.inside) is in
    let at = c.requires.at (seat_in c.seat.inside) is in
    let m = at.3 in
    o.store.ends (some_hand c.args.state.now.load.procs c.seat.inside.txn m.hand m.is)

pub went-requires-clause-rest : goal.went-requires-clause-rest
went-requires-clause-rest c =
    let is = found_seat c.args.state.now c.args.worker c.index_mut-seat.result.now c.seat.inside c.requires.sound c.requires.there c.index_mut-seat.ensures.value c.seat.view_is in
    let at = c.requires.at (seat_in c.seat.inside) is in
    subst (λ (a : Action). IsForWent a) (sym at.2) tt

pub went-requires-clause-run : goal.went-requires-clause-run
went-requires-clause-run c =
    let is = found_seat c.args.state.now c.args.worker c.index_mut-seat.result.now c.seat.inside c.requires.sound c.requires.there c.index_mut-seat.ensures.value c.seat.view_is in
    let o = c.requires.sound.seat c.args.worker (seat_in c.seat.inside) is in
    o.txn.runs

pub returns : goal.returns
returns c =
    let is = found_seat c.args.state.now c.args.worker c.index_mut-seat.result.now c.seat.inside c.requires.sound c.requires.there c.index_mut-seat.ensures.value c.seat.view_is in
    let o = c.requires.sound.seat c.args.worker (seat_in c.seat.inside) is in
    let at = c.requires.at (seat_in c.seat.inside) is in
    let m = at.3 in
    let p : Plain = plain c.args.state.now in
    let new : PlainSeat = record (seat_in c.seat.inside) { txn = c.went.new.self; pending = c.put_from.new.self } in
    let empty = c.went.ensures.done at.0 at.1 at.2 in
    let gone = hand_gone c.args.state.now.load.procs c.went.new.self empty in
    let vector : c.lv_ref-vector.result.now ≡ lv_of m.act = c.lv_ref-vector.ensures.frees c.args.state.now.load.procs m.hand m.act o.txn.runs m.is m.act_is in
    let number : c.in-Some.number ≡ m.act.call.call.number =
    (let e : Some c.in-Some.number ≡ Some m.act.call.call.number = sym c.in-Some.is ∙ c.number.ensures ∙ number_freed c.args.state.now.load.procs c.seat.inside.txn m.hand m.act m.is (freeing_on c.args.state.now.load.procs (has_joined c.seat.inside.txn) c.seat.inside.txn.worker m.hand m.act (c.requires.joined (seat_in c.seat.inside) is) m.act_is) in cc) in
    let sound = sound_gone c.args.state.now.load c.args.worker (seat_in c.seat.inside) c.went.new.self c.put_from.new.self o c.went.ensures.same empty in
    record {
      seat = seat_in c.seat.inside;
      hand = m.hand;
      act = m.act;
      new = new;
      joined = [];
      room = p.room;
      is = is;
      hand_is = m.is;
      joins = joins_on c.args.state.now.load c.args.worker m.hand m.act (has_joined c.seat.inside.txn) c.seat.inside.txn o.txn.worker (c.requires.joined (seat_in c.seat.inside) is) m.act_is;
      held = m.held;
      gone = gone;
      waits = c.put_from.ensures.calls ∙ (λ i. c.seat.inside.pending.calls ++ record { number = number i; lv = vector i } ∷ []);
      others = refl;
      sound = sound;
      rooms = rooms_on p c.args.worker (seat_in c.seat.inside) new m.hand m.act is m.is (none_open c.args.state.now.load new gone) c.requires.sound.room;
      after = ap (λ (x : List Committed). record p { seats = slice_set p.seats c.args.worker new; committed = x }) (sym (append-nil p.committed));
    }
