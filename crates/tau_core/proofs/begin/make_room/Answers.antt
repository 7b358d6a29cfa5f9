use Rattle.std.proofs.Common.{ℕ, ◌<◌, ◌≤◌, ◌≡◌, List, length, refl, sym, ap, subst, ◌∙◌, arith}
use Rattle.std.specs.Prelude.{Some, Ok, Err, OnOk, Result, slice_set}
use Rattle.tau_base.specs.declared.value.NoMemory.{NoMemory}
use Rattle.tau_model.specs.declared.committed.Committed.{Committed}
use Rattle.tau_core.specs.Plain.{PlainSeat}
use Rattle.tau_core.specs.State.{Plain, plain}
use Rattle.tau_core.proofs.Found.{found_whole}
use Rattle.tau_core.proofs.Lists.{set_got, got_same}
use Rattle.tau_core.proofs.begin.make_room.Goals as goal
use Rattle.tau_base.proofs.Lists.{some_at}

on_both : {P Q R : Type 0} (r : Result (Unit {0}) NoMemory) → (P → Q → R) → OnOk r P → OnOk r Q → OnOk r R
on_both (Ok x) f p q = f p q
on_both (Err e) f p q = tt

pub returns-in_err-committed_room-clause-made : goal.returns-in_err-committed_room-clause-made
returns-in_err-committed_room-clause-made c =
    let p : Plain = plain c.args.state.now in
    let within : c.args.worker < length c.args.state.now.seats.items = (let e = c.requires.sound.seats in let l = c.requires.there in omega arith) in
    let found = some_at c.args.state.now.seats.items c.args.worker within in
    let room : ℕ = c.committed_room.new.committed.room in
    record {
      seat = found.0;
      pending = found.0.pending;
      left = found.0.room;
      room = room;
      is = found.1;
      calls = refl;
      pending_room = (omega arith);
      left_room = (omega arith);
      rooms = c.committed_room.ensures.kept;
      after = ap (λ (x : List Committed × List PlainSeat). record p { committed = x.0; seats = x.1; room = room }) (λ i. (c.committed_room.ensures.items i, sym (set_got p.seats c.args.worker found.0 found.1) i));
    }

pub returns-clause-made : goal.returns-clause-made
returns-clause-made c =
    let p : Plain = plain c.args.state.now in
    let is = found_whole c.args.state.now c.args.worker c.index_mut-seat.result.now c.requires.sound c.requires.there c.index_mut-seat.ensures.value in
    let room : ℕ = c.committed_room.new.committed.room in
    record {
      seat = c.index_mut-seat.result.now;
      pending = c.seat_room.new.seat.pending;
      left = c.seat_room.new.seat.room;
      room = room;
      is = is;
      calls = c.seat_room.ensures.calls;
      pending_room = c.seat_room.ensures.pending;
      left_room = c.seat_room.ensures.left;
      rooms = c.committed_room.ensures.kept;
      after = ap (λ (x : List Committed × PlainSeat). record p { committed = x.0; seats = slice_set p.seats c.args.worker x.1; room = room }) (λ i. (c.committed_room.ensures.items i, c.seat_room.ensures.same i));
    }

pub returns-clause-roomy : goal.returns-clause-roomy
returns-clause-roomy c =
    let within : c.args.worker < length c.args.state.now.seats.items = (let e = c.requires.sound.seats in let l = c.requires.there in omega arith) in
    on_both c.seat_room.result (λ pending left. record {
      committed = c.in_ok-committed_room.ensures.roomy;
      seat = λ s e.
          let same : c.seat_room.new.seat ≡ s = (let f : Some c.seat_room.new.seat ≡ Some s = sym (got_same c.args.state.now.seats.items c.args.worker c.seat_room.new.seat within) ∙ e in cc) in
          subst (λ (x : PlainSeat). (1 ≤ x.pending.room) × (1 ≤ x.room)) same (pending, left);
    }) c.seat_room.ensures.roomy c.seat_room.ensures.roomy_left
