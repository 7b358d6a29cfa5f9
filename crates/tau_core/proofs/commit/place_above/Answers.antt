use Rattle.std.proofs.Common.{ℕ, ◌+◌, ◌%◌, ◌≡◌, ◌<◌, ◌≤◌, ◌^◌, List, length, refl, sym, ap, subst, ◌∙◌, arith}
use Rattle.std.specs.Prelude.{Some, slice_set}
use Rattle.tau_base.specs.Vectors.{join}
use Rattle.tau_model.specs.History.{Act}
use Rattle.tau_model.specs.declared.committed.Committed.{Committed}
use Rattle.tau_txn.specs.declared.action.Action.{Action}
use Rattle.tau_txn.specs.declared.action.Action.TheVariants as action
use Rattle.tau_txn.specs.Txn.{PlainTxn, hand_in, bytes_in}
use Rattle.tau_txn.specs.Next.{IsCommit}
use Rattle.tau_machine.specs.Hands.{Txn, Placed}
use Rattle.tau_machine.specs.Worker.{hand_joined}
use Rattle.tau_core.specs.Plain.{PlainSeat}
use Rattle.tau_core.specs.State.{Plain, plain}
use Rattle.tau_machine.specs.State.{Record}
use Rattle.tau_core.specs.Pieces.{IsPieceOf}
use Rattle.tau_core.specs.Commits.{Commits}
use Rattle.tau_core.specs.Stands.{anchors_at}
use Rattle.tau_core.proofs.Found.{seat_in, found_seat}
use Rattle.tau_core.proofs.MadeRecords.{raised, act_of, is_made}
use Rattle.tau_core.proofs.PhaseLaws.{means_phase}
use Rattle.tau_core.proofs.Hands.{sound_placed}
use Rattle.tau_core.proofs.Joins.{one_none, room_new, rooms_new}
use Rattle.tau_core.proofs.commit.place_above.Goals as goal

starts_at : (w start other : ℕ) (p p' : Plain) → start ≡ other → Commits w start p p' → Commits w other p p'
starts_at w start other p p' e q = subst (λ (n : ℕ). Commits w n p p') e q

pub returns-in-Err : goal.returns-in-Err
returns-in-Err c =
    let is = found_seat c.args.state.now c.args.worker c.index_mut-seat.result.now c.seat.inside c.requires.sound c.requires.there c.index_mut-seat.ensures.value c.seat.view_is in (
      record { seat = seat_in c.seat.inside; outbox = c.reserve.new.self; is = is; pieces = c.reserve.ensures.pieces; room = c.reserve.ensures.kept; after = refl },
      λ s e.
          let o = c.requires.sound.seat c.args.worker s e in
          let at = c.requires.at s e in
          means_phase c.args.state.now.load.procs s.txn (action.Commit at.0) at.2 o.txn.leaving o.txn.stays,
    )

pub prepare-requires-clause-commit : goal.prepare-requires-clause-commit
prepare-requires-clause-commit c =
    let is = found_seat c.args.state.now c.args.worker c.index_mut-seat.result.now c.seat.inside c.requires.sound c.requires.there c.index_mut-seat.ensures.value c.seat.view_is in
    let at = c.requires.at (seat_in c.seat.inside) is in
    subst (λ (a : Action). IsCommit a) (sym at.1) tt

pub prepare-requires-clause-wide : goal.prepare-requires-clause-wide
prepare-requires-clause-wide c =
    let is = found_seat c.args.state.now c.args.worker c.index_mut-seat.result.now c.seat.inside c.requires.sound c.requires.there c.index_mut-seat.ensures.value c.seat.view_is in
    let o = c.requires.sound.seat c.args.worker (seat_in c.seat.inside) is in
    c.requires.wide ∙ sym o.txn.width

pub returns-in-Err-prepare : goal.returns-in-Err-prepare
returns-in-Err-prepare c =
    let is = found_seat c.args.state.now c.args.worker c.index_mut-seat.result.now c.seat.inside c.requires.sound c.requires.there c.index_mut-seat.ensures.value c.seat.view_is in (
      record {
        seat = seat_in c.seat.inside;
        outbox = c.reserve.new.self;
        is = is;
        pieces = c.reserve.ensures.pieces;
        room = c.reserve.ensures.kept;
        after = ap (λ (x : PlainTxn). record (plain c.args.state.now) { seats = slice_set c.args.state.now.seats.items c.args.worker (record (seat_in c.seat.inside) { txn = x; outbox = c.reserve.new.self }) }) c.in-Err-prepare.ensures.unchanged;
      },
      λ s e.
          let o = c.requires.sound.seat c.args.worker s e in
          let at = c.requires.at s e in
          means_phase c.args.state.now.load.procs s.txn (action.Commit at.0) at.2 o.txn.leaving o.txn.stays,
    )

pub overflow_add-past : goal.overflow_add-past
overflow_add-past c =
    let is = found_seat c.args.state.now c.args.worker c.index_mut-seat.result.now c.seat.inside c.requires.sound c.requires.there c.index_mut-seat.ensures.value c.seat.view_is in
    let at = c.requires.at (seat_in c.seat.inside) is in
    let made = is_made (plain c.args.state.now) c.args.worker c.args.start c.args.named.now.number c.args.named.now.lv (seat_in c.seat.inside) c.prepare.new.self at.0 at.2 c.requires.sound is c.requires.wide
    c.in-Ok-prepare.ensures.same c.in-Ok-prepare.ensures.anchor c.in-Ok-prepare.ensures.raised c.in-Ok-prepare.ensures.runs c.in-Ok-prepare.ensures.bytes in
    let low = c.requires.low in
    let size = c.record_size.ensures in
    let small : length (bytes_in c.prepare.new.self) < 2 ^ 32 = made.small in
    omega arith

pub placed-requires-clause-small : goal.placed-requires-clause-small
placed-requires-clause-small c =
    let is = found_seat c.args.state.now c.args.worker c.index_mut-seat.result.now c.seat.inside c.requires.sound c.requires.there c.index_mut-seat.ensures.value c.seat.view_is in
    let at = c.requires.at (seat_in c.seat.inside) is in
    let made = is_made (plain c.args.state.now) c.args.worker c.args.start c.args.named.now.number c.args.named.now.lv (seat_in c.seat.inside) c.prepare.new.self at.0 at.2 c.requires.sound is c.requires.wide
    c.in-Ok-prepare.ensures.same c.in-Ok-prepare.ensures.anchor c.in-Ok-prepare.ensures.raised c.in-Ok-prepare.ensures.runs c.in-Ok-prepare.ensures.bytes in
    let low = c.requires.low in
    let small : length (bytes_in c.prepare.new.self) < 2 ^ 32 = made.small in
    omega arith

pub commit_into-requires : goal.commit_into-requires
commit_into-requires c =
    let is = found_seat c.args.state.now c.args.worker c.index_mut-seat.result.now c.seat.inside c.requires.sound c.requires.there c.index_mut-seat.ensures.value c.seat.view_is in
    let at = c.requires.at (seat_in c.seat.inside) is in
    let m = at.2 in
    let made = is_made (plain c.args.state.now) c.args.worker c.args.start c.args.named.now.number c.args.named.now.lv (seat_in c.seat.inside) c.prepare.new.self at.0 at.2 c.requires.sound is c.requires.wide
    c.in-Ok-prepare.ensures.same c.in-Ok-prepare.ensures.anchor c.in-Ok-prepare.ensures.raised c.in-Ok-prepare.ensures.runs c.in-Ok-prepare.ensures.bytes in
    let procs = c.args.state.now.load.procs in
    let base : List ℕ = c.args.named.now.lv in
    let act : Act Txn = act_of (plain c.args.state.now) c.args.worker c.args.start c.args.named.now.number base m.hand m.effect (bytes_in c.prepare.new.self) in
    let placed : hand_in procs c.placed.new.self ≡ Some (hand_joined m.hand (Placed act) (join m.hand.dep base)) =
    c.placed.ensures.placed procs (raised m.hand base) made.runs made.hand_is ∙ ap (λ (a : Act Txn). Some (hand_joined m.hand (Placed a) (join m.hand.dep base))) made.act_is in
    let new : PlainSeat = record (seat_in c.seat.inside) { txn = c.placed.new.self; start = c.args.start; outbox = c.reserve.new.self } in
    record { room = room_new (plain c.args.state.now) c.args.worker (seat_in c.seat.inside) new m.hand act is m.is (one_none c.args.state.now.load new (hand_joined m.hand (Placed act) (join m.hand.dep base)) act placed refl) m.phase c.requires.sound.room }

pub set-requires-clause-small : goal.set-requires-clause-small
set-requires-clause-small c =
    let is = found_seat c.args.state.now c.args.worker c.index_mut-seat.result.now c.seat.inside c.requires.sound c.requires.there c.index_mut-seat.ensures.value c.seat.view_is in
    let at = c.requires.at (seat_in c.seat.inside) is in
    let made = is_made (plain c.args.state.now) c.args.worker c.args.start c.args.named.now.number c.args.named.now.lv (seat_in c.seat.inside) c.prepare.new.self at.0 at.2 c.requires.sound is c.requires.wide
    c.in-Ok-prepare.ensures.same c.in-Ok-prepare.ensures.anchor c.in-Ok-prepare.ensures.raised c.in-Ok-prepare.ensures.runs c.in-Ok-prepare.ensures.bytes in
    let low = c.requires.low in
    let size = c.record_size.ensures in
    let small : length (bytes_in c.prepare.new.self) < 2 ^ 32 = made.small in
    omega arith

pub returns-in-Ok-prepare : goal.returns-in-Ok-prepare
returns-in-Ok-prepare c =
    let is = found_seat c.args.state.now c.args.worker c.index_mut-seat.result.now c.seat.inside c.requires.sound c.requires.there c.index_mut-seat.ensures.value c.seat.view_is in
    let o = c.requires.sound.seat c.args.worker (seat_in c.seat.inside) is in
    let at = c.requires.at (seat_in c.seat.inside) is in
    let m = at.2 in
    let made = is_made (plain c.args.state.now) c.args.worker c.args.start c.args.named.now.number c.args.named.now.lv (seat_in c.seat.inside) c.prepare.new.self at.0 at.2 c.requires.sound is c.requires.wide
    c.in-Ok-prepare.ensures.same c.in-Ok-prepare.ensures.anchor c.in-Ok-prepare.ensures.raised c.in-Ok-prepare.ensures.runs c.in-Ok-prepare.ensures.bytes in
    let procs = c.args.state.now.load.procs in
    let base : List ℕ = c.args.named.now.lv in
    let act : Act Txn = act_of (plain c.args.state.now) c.args.worker c.args.start c.args.named.now.number base m.hand m.effect (bytes_in c.prepare.new.self) in
    let placed : hand_in procs c.placed.new.self ≡ Some (hand_joined m.hand (Placed act) (join m.hand.dep base)) =
    c.placed.ensures.placed procs (raised m.hand base) made.runs made.hand_is ∙ ap (λ (a : Act Txn). Some (hand_joined m.hand (Placed a) (join m.hand.dep base))) made.act_is in
    let runs' = c.placed.ensures.runs procs made.runs in
    let kept = c.commit_into.ensures.joined procs (hand_joined m.hand (Placed act) (join m.hand.dep base)) act runs' placed refl in
    let new : PlainSeat = record (seat_in c.seat.inside) { txn = c.placed.new.self; start = c.args.start; outbox = c.reserve.new.self } in
    let p : Plain = plain c.args.state.now in
    let bytes_is : bytes_in c.placed.new.self ≡ bytes_in c.prepare.new.self = c.placed.ensures.bytes in
    let same : c.placed.new.self ≡ record c.seat.inside.txn { hand = c.placed.new.self.hand } = c.placed.ensures.same ∙ ap (λ (t : PlainTxn). record t { hand = c.placed.new.self.hand }) c.in-Ok-prepare.ensures.same in
    let left : ℕ = c.commit_into.new.out.room in
    starts_at c.args.worker c.args.start _ p _ c.requires.start (record {
      seat = seat_in c.seat.inside;
      hand = m.hand;
      effect = m.effect;
      number = c.args.named.now.number;
      base = base;
      act = act;
      new = new;
      room = left;
      is = is;
      hand_is = m.is;
      phase = m.phase;
      ended = m.ended;
      locked = m.locked;
      updates = m.updates;
      named = c.requires.names;
      newest = c.requires.newest;
      wide = c.requires.wide;
      start_is = c.requires.start;
      act_is = ap (λ (b : List ℕ). act_of p c.args.worker c.args.start c.args.named.now.number base m.hand m.effect b) (sym bytes_is);
      longer = subst (λ (b : List ℕ). 1 ≤ length b) (sym bytes_is) c.in-Ok-prepare.ensures.sized;
      placed = placed;
      piece = subst (λ (b : List ℕ). IsPieceOf c.args.state.now.load (anchors_at p) (record { start = c.args.start; bytes = b }) (Record act)) (sym bytes_is)
          (record { start = refl; past = refl; bytes = record { base = base; named = c.requires.names; spelled = made.spelled } });
      pieces = c.reserve.ensures.pieces;
      others = refl;
      sound = sound_placed c.args.state.now.load c.args.worker (seat_in c.seat.inside) new m.hand (hand_joined m.hand (Placed act) (join m.hand.dep base)) o m.is refl same placed refl runs'
          (c.placed.ensures.stays (c.in-Ok-prepare.ensures.stays o.txn.leaving)) c.in-Ok.ensures.room;
      rooms = rooms_new (plain c.args.state.now) c.args.worker (seat_in c.seat.inside) new m.hand act is m.is (one_none c.args.state.now.load new (hand_joined m.hand (Placed act) (join m.hand.dep base)) act placed refl) left m.phase c.requires.sound.room c.commit_into.ensures.room;
      after = ap (λ (x : List Committed × List ℕ). record p { seats = slice_set p.seats c.args.worker new; committed = x.0; room = left; ends = x.1 })
          (λ i. (kept i, (c.set.ensures ∙ ap (λ (j : ℕ). slice_set p.ends j (c.args.start + c.record_size.result)) c.stream_of.ensures.same ∙ ap (λ (n : ℕ). slice_set p.ends (c.args.worker % p.load.streams) (c.args.start + n)) (c.record_size.ensures ∙ ap (length {A = ℕ}) (sym bytes_is))) i));
    })
