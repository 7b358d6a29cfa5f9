use Rattle.std.proofs.Common.{ℕ, ◌≡◌, List, [], refl, sym, ap, subst, ◌∙◌, Option}
use Rattle.std.specs.Prelude.{IsSome, slice_set}
use Rattle.std.proofs.lemmas.List.{append-nil}
use Rattle.std.specs.Map.{lookup}
use Rattle.tau_base.specs.Database.{same_key}
use Rattle.tau_base.specs.declared.value.Value.{Value}
use Rattle.tau_base.specs.Shards.{shard_number}
use Rattle.tau_model.specs.declared.committed.Committed.{Committed}
use Rattle.tau_txn.specs.declared.action.Action.{Action}
use Rattle.tau_txn.specs.Txn.{has_joined}
use Rattle.tau_txn.specs.Narrow.{written_in}
use Rattle.tau_txn.specs.Next.{IsForWent}
use Rattle.tau_machine.specs.Hands.{Hand, Freeing, lv_of}
use Rattle.tau_shard.specs.Shard.{shard_freed}
use Rattle.tau_machine.specs.Worker.{hand_freed, hand_joined}
use Rattle.tau_shard.specs.Read.{shard_of}
use Rattle.tau_core.specs.Plain.{PlainSeat}
use Rattle.tau_core.specs.State.{Plain, plain}
use Rattle.tau_core.proofs.Found.{seat_in, found_seat, found_shard_of}
use Rattle.tau_core.proofs.Hands.{some_hand, sound_on}
use Rattle.tau_core.proofs.Holders.{copied_some, is_held, is_written}
use Rattle.tau_core.proofs.Joins.{joins_on, joined_none, rooms_on}
use Rattle.tau_core.proofs.free.free_on.Goals as goal

pub lv_ref-vector-requires : goal.lv_ref-vector-requires
lv_ref-vector-requires c =
    let g = c.requires.stood in
    let is = found_seat c.args.state.now c.args.worker c.index_mut-seat.result.now c.seat.inside g.2.sound c.requires.there c.index_mut-seat.ensures.value c.seat.view_is in
    let m = (c.requires.at (seat_in c.seat.inside) is (seat_in c.seat.inside) is).1 in
    some_hand c.args.state.now.load.procs c.seat.inside.txn m.hand m.is

pub free_by-requires-clause-held : goal.free_by-requires-clause-held
free_by-requires-clause-held c =
    let g = c.requires.stood in
    let is = found_seat c.args.state.now c.args.worker c.index_mut-seat.result.now c.seat.inside g.2.sound c.requires.there c.index_mut-seat.ensures.value c.seat.view_is in
    let at = c.requires.at (seat_in c.seat.inside) is (seat_in c.seat.inside) is in
    let m = at.1 in
    let shard_is = found_shard_of c.args.state.now c.args.key c.shard_of.result c.from.result c.index_mut-part.result.now g.2.sound c.from.ensures c.shard_of.ensures.same c.shard_of.ensures.small c.index_mut-part.ensures.value in
    is_held (plain c.args.state.now) g.0 g.1 g.2 c.args.worker (seat_in c.seat.inside) m.hand c.index_mut-part.result.now c.args.key m.mode is m.is shard_is m.held

pub free_by-requires-clause-writes : goal.free_by-requires-clause-writes
free_by-requires-clause-writes c =
    let g = c.requires.stood in
    let is = found_seat c.args.state.now c.args.worker c.index_mut-seat.result.now c.seat.inside g.2.sound c.requires.there c.index_mut-seat.ensures.value c.seat.view_is in
    let at = c.requires.at (seat_in c.seat.inside) is (seat_in c.seat.inside) is in
    let m = at.1 in
    let shard_is = found_shard_of c.args.state.now c.args.key c.shard_of.result c.from.result c.index_mut-part.result.now g.2.sound c.from.ensures c.shard_of.ensures.same c.shard_of.ensures.small c.index_mut-part.ensures.value in
    λ some. is_written (plain c.args.state.now) g.0 g.1 g.2 c.args.worker (seat_in c.seat.inside) m.hand c.index_mut-part.result.now c.args.key m.mode is m.is shard_is m.held m.act (has_joined c.seat.inside.txn) m.act_is
    (subst (λ (x : Option Value). IsSome x) (c.written_at.ensures ∙ m.write_is) (copied_some c.written_at.result some))

pub went-requires-clause-rest : goal.went-requires-clause-rest
went-requires-clause-rest c =
    let g = c.requires.stood in
    let is = found_seat c.args.state.now c.args.worker c.index_mut-seat.result.now c.seat.inside g.2.sound c.requires.there c.index_mut-seat.ensures.value c.seat.view_is in
    let at = c.requires.at (seat_in c.seat.inside) is (seat_in c.seat.inside) is in
    subst (λ (a : Action). IsForWent a) (sym at.0) tt

pub went-requires-clause-run : goal.went-requires-clause-run
went-requires-clause-run c =
    let g = c.requires.stood in
    let is = found_seat c.args.state.now c.args.worker c.index_mut-seat.result.now c.seat.inside g.2.sound c.requires.there c.index_mut-seat.ensures.value c.seat.view_is in
    let o = g.2.sound.seat c.args.worker (seat_in c.seat.inside) is in
    o.txn.runs

pub returns : goal.returns
returns c =
    let g = c.requires.stood in
    let is = found_seat c.args.state.now c.args.worker c.index_mut-seat.result.now c.seat.inside g.2.sound c.requires.there c.index_mut-seat.ensures.value c.seat.view_is in
    let o = g.2.sound.seat c.args.worker (seat_in c.seat.inside) is in
    let at = c.requires.at (seat_in c.seat.inside) is (seat_in c.seat.inside) is in
    let m = at.1 in
    let number : c.from.result ≡ shard_number c.args.key = c.from.ensures ∙ c.shard_of.ensures.same in
    let shard_is = found_shard_of c.args.state.now c.args.key c.shard_of.result c.from.result c.index_mut-part.result.now g.2.sound c.from.ensures c.shard_of.ensures.same c.shard_of.ensures.small c.index_mut-part.ensures.value in
    let p : Plain = plain c.args.state.now in
    let new : PlainSeat = record (seat_in c.seat.inside) { txn = c.went.new.self } in
    let k : Hand = hand_freed (hand_joined m.hand (Freeing m.act) m.hand.dep) c.args.key in
    let left = c.went.ensures.freed m.hand m.act c.args.key (written_in c.seat.inside.txn c.args.key) at.0 m.is m.act_is in
    let write = c.written_at.ensures ∙ m.write_is in
    let vector : c.lv_ref-vector.result.now ≡ lv_of m.act = c.lv_ref-vector.ensures.frees c.args.state.now.load.procs m.hand m.act o.txn.runs m.is m.act_is in
    let frees : shard_of c.free_by.new.self ≡ shard_freed (shard_of c.index_mut-part.result.now) c.args.worker c.args.key (lv_of m.act) (lookup (same_key c.args.key) m.act.effect.writes) =
    c.free_by.ensures ∙ (λ i. shard_freed (shard_of c.index_mut-part.result.now) c.args.worker c.args.key (vector i) (write i)) in
    let sound = sound_on c.args.state.now.load c.args.worker (seat_in c.seat.inside) new m.hand k o m.is refl c.went.ensures.same left refl c.went.ensures.runs (c.went.ensures.stays o.txn.leaving) refl in
    record {
      seat = seat_in c.seat.inside;
      shard = c.index_mut-part.result.now;
      hand = m.hand;
      act = m.act;
      key = c.args.key;
      mode = m.mode;
      new = new;
      freed = c.free_by.new.self;
      joined = [];
      room = p.room;
      is = is;
      shard_is = shard_is;
      hand_is = m.is;
      joins = joins_on c.args.state.now.load c.args.worker m.hand m.act (has_joined c.seat.inside.txn) c.seat.inside.txn o.txn.worker (c.requires.joined (seat_in c.seat.inside) is) m.act_is;
      held = m.held;
      lowest = m.lowest;
      frees = frees;
      left = left;
      others = refl;
      sound = sound;
      rooms = rooms_on p c.args.worker (seat_in c.seat.inside) new m.hand m.act is m.is (joined_none c.args.state.now.load new k m.act left refl) g.2.sound.room;
      after = ap (λ (x : ℕ × List Committed). record p { seats = slice_set p.seats c.args.worker new; shards = slice_set p.shards x.0 c.free_by.new.self; committed = x.1 }) (λ i. (number i, sym (append-nil p.committed) i));
    }
