use Rattle.std.proofs.Common.{◌≡◌, List, [], ◌∷◌, ◌++◌, refl, sym, ap, subst, ◌∙◌}
use Rattle.std.specs.Prelude.{None, Some, slice_set}
use Rattle.tau_model.specs.declared.committed.Committed.{Committed}
use Rattle.tau_txn.specs.declared.action.Action.{Action}
use Rattle.tau_txn.specs.Txn.{has_joined}
use Rattle.tau_txn.specs.Next.{IsForWent}
use Rattle.tau_machine.specs.Hands.{committed_of, lv_of}
use Rattle.tau_core.specs.Plain.{PlainSeat}
use Rattle.tau_core.specs.State.{Plain, plain}
use Rattle.tau_core.proofs.Found.{seat_in, found_seat}
use Rattle.tau_core.proofs.Hands.{some_hand, hand_gone, sound_gone}
use Rattle.tau_core.proofs.Joins.{kept_into, number_hand, number_reads, joins_new, none_open, reads_phase, rooms_new, room_new}
use Rattle.tau_core.proofs.done.finish_first.Goals as goal

pub unreachable-requires : goal.unreachable-requires
unreachable-requires c =
    let is = found_seat c.args.state.now c.args.worker c.index_mut-seat.result.now c.seat.inside c.requires.sound c.requires.there c.index_mut-seat.ensures.value c.seat.view_is in
    let at = c.requires.at (seat_in c.seat.inside) is in
    let m = at.3 in
    c.in_default.not-Some m.hand.call.number (c.number.ensures ∙ number_hand c.args.state.now.load.procs c.seat.inside.txn m.hand m.is)

pub commit_into-requires : goal.commit_into-requires
commit_into-requires c =
    let is = found_seat c.args.state.now c.args.worker c.index_mut-seat.result.now c.seat.inside c.requires.sound c.requires.there c.index_mut-seat.ensures.value c.seat.view_is in
    let m = (c.requires.at (seat_in c.seat.inside) is).3 in
    let let_go : PlainSeat = record (seat_in c.seat.inside) { txn = record c.seat.inside.txn { hand = None } } in
    record {
      room = room_new (plain c.args.state.now) c.args.worker (seat_in c.seat.inside) let_go m.hand m.act is m.is (none_open c.args.state.now.load let_go refl)
          (reads_phase c.args.state.now.load.procs (has_joined c.seat.inside.txn) c.seat.inside.txn.worker m.hand m.act (c.requires.joined (seat_in c.seat.inside) is) m.act_is) c.requires.sound.room;
    }

pub lv_ref-requires : goal.lv_ref-requires
lv_ref-requires c =
    let is = found_seat c.args.state.now c.args.worker c.index_mut-seat.result.now c.seat.inside c.requires.sound c.requires.there c.index_mut-seat.ensures.value c.seat.view_is in
    let m = (c.requires.at (seat_in c.seat.inside) is).3 in
    some_hand c.args.state.now.load.procs c.seat.inside.txn m.hand m.is

pub put_from-requires : goal.put_from-requires
put_from-requires c =
    let is = found_seat c.args.state.now c.args.worker c.index_mut-seat.result.now c.seat.inside c.requires.sound c.requires.there c.index_mut-seat.ensures.value c.seat.view_is in
    let o = c.requires.sound.seat c.args.worker (seat_in c.seat.inside) is in
    let at = c.requires.at (seat_in c.seat.inside) is in
    let m = at.3 in
    o.store.ends (some_hand c.args.state.now.load.procs c.seat.inside.txn m.hand m.is)

pub went-requires-clause-rest : goal.went-requires-clause-rest
went-requires-clause-rest c =
    let is = found_seat c.args.state.now c.args.worker c.index_mut-seat.result.now c.seat.inside c.requires.sound c.requires.there c.index_mut-seat.ensures.value c.seat.view_is in
    let at = c.requires.at (seat_in c.seat.inside) is in
    subst (λ (a : Action). IsForWent a) (sym at.2) tt

pub went-requires-clause-run : goal.went-requires-clause-run
went-requires-clause-run c =
    let is = found_seat c.args.state.now c.args.worker c.index_mut-seat.result.now c.seat.inside c.requires.sound c.requires.there c.index_mut-seat.ensures.value c.seat.view_is in
    let o = c.requires.sound.seat c.args.worker (seat_in c.seat.inside) is in
    o.txn.runs

pub returns : goal.returns
returns c =
    let is = found_seat c.args.state.now c.args.worker c.index_mut-seat.result.now c.seat.inside c.requires.sound c.requires.there c.index_mut-seat.ensures.value c.seat.view_is in
    let o = c.requires.sound.seat c.args.worker (seat_in c.seat.inside) is in
    let at = c.requires.at (seat_in c.seat.inside) is in
    let m = at.3 in
    let p : Plain = plain c.args.state.now in
    let new : PlainSeat = record (seat_in c.seat.inside) { txn = c.went.new.self; pending = c.put_from.new.self } in
    let empty = c.went.ensures.done at.0 at.1 at.2 in
    let gone = hand_gone c.args.state.now.load.procs c.went.new.self empty in
    let kept = kept_into c.args.state.now.load.procs c.seat.inside.txn m.hand m.act (has_joined c.seat.inside.txn) p.committed c.commit_into.new.out.items m.act_is
    (λ a e. c.commit_into.ensures.joined c.args.state.now.load.procs m.hand a o.txn.runs m.is e) (λ a e. c.commit_into.ensures.reading c.args.state.now.load.procs m.hand a o.txn.runs m.is e) in
    let vector : c.lv_ref.result.now ≡ lv_of m.act = c.lv_ref.ensures.frees c.args.state.now.load.procs m.hand m.act o.txn.runs m.is m.act_is in
    let number : c.in-Some.number ≡ m.act.call.call.number =
    (let e : Some c.in-Some.number ≡ Some m.hand.call.number = sym c.in-Some.is ∙ c.number.ensures ∙ number_hand c.args.state.now.load.procs c.seat.inside.txn m.hand m.is in cc)
    ∙ number_reads c.args.state.now.load.procs (has_joined c.seat.inside.txn) c.seat.inside.txn.worker m.hand m.act (c.requires.joined (seat_in c.seat.inside) is) m.act_is in
    let sound = sound_gone c.args.state.now.load c.args.worker (seat_in c.seat.inside) c.went.new.self c.put_from.new.self o c.went.ensures.same empty in
    record {
      seat = seat_in c.seat.inside;
      hand = m.hand;
      act = m.act;
      new = new;
      joined = committed_of m.act ∷ [];
      room = c.commit_into.new.out.room;
      is = is;
      hand_is = m.is;
      joins = joins_new c.args.state.now.load c.args.worker m.hand m.act (has_joined c.seat.inside.txn) c.seat.inside.txn o.txn.worker (c.requires.joined (seat_in c.seat.inside) is) m.act_is;
      held = m.held;
      gone = gone;
      waits = c.put_from.ensures.calls ∙ (λ i. c.seat.inside.pending.calls ++ record { number = number i; lv = vector i } ∷ []);
      others = refl;
      sound = sound;
      rooms = rooms_new p c.args.worker (seat_in c.seat.inside) new m.hand m.act is m.is (none_open c.args.state.now.load new gone) c.commit_into.new.out.room (reads_phase c.args.state.now.load.procs (has_joined c.seat.inside.txn) c.seat.inside.txn.worker m.hand m.act (c.requires.joined (seat_in c.seat.inside) is) m.act_is) c.requires.sound.room c.commit_into.ensures.room;
      after = ap (λ (x : List Committed). record p { seats = slice_set p.seats c.args.worker new; committed = x; room = c.commit_into.new.out.room }) kept;
    }
