use Rattle.std.proofs.Common.{refl, ap, ◌∙◌, arith}
use Rattle.std.specs.Prelude.{slice_index}
use Rattle.tau_machine.specs.Hands.{Freeing}
use Rattle.tau_machine.specs.Pieces.{placed_in, placed_of}
use Rattle.tau_core.specs.Plain.{PlainSeat}
use Rattle.tau_core.specs.State.{Plain, plain}
use Rattle.tau_core.proofs.Found.{seat_in, found_seat}
use Rattle.tau_core.proofs.Hands.{sound_on, sound_outbox}
use Rattle.tau_core.proofs.Posts.{posts_order, posts_small}
use Rattle.tau_core.proofs.post.post_record.Goals as goal

pub post_from-requires-clause-room : goal.post_from-requires-clause-room
post_from-requires-clause-room c =
    let g = c.requires.stood in
    let is = found_seat c.args.state.now c.args.worker c.index_mut-seat.result.now c.seat.inside g.2.sound c.requires.there c.index_mut-seat.ensures.value c.seat.view_is in
    let o = g.2.sound.seat c.args.worker (seat_in c.seat.inside) is in
    let at = c.requires.at (seat_in c.seat.inside) is in
    let m = at.1 in
    o.store.posts m.act (ap placed_in m.is ∙ ap placed_of m.phase)

pub post_from-requires-clause-order : goal.post_from-requires-clause-order
post_from-requires-clause-order c =
    let g = c.requires.stood in
    let is = found_seat c.args.state.now c.args.worker c.index_mut-seat.result.now c.seat.inside g.2.sound c.requires.there c.index_mut-seat.ensures.value c.seat.view_is in
    let o = g.2.sound.seat c.args.worker (seat_in c.seat.inside) is in
    let at = c.requires.at (seat_in c.seat.inside) is in
    let m = at.1 in
    posts_order (plain c.args.state.now) g.0 g.1 g.2 c.args.worker (seat_in c.seat.inside) m.act is (ap placed_in m.is ∙ ap placed_of m.phase)

pub post_from-requires-clause-small : goal.post_from-requires-clause-small
post_from-requires-clause-small c =
    let g = c.requires.stood in
    let is = found_seat c.args.state.now c.args.worker c.index_mut-seat.result.now c.seat.inside g.2.sound c.requires.there c.index_mut-seat.ensures.value c.seat.view_is in
    let o = g.2.sound.seat c.args.worker (seat_in c.seat.inside) is in
    let at = c.requires.at (seat_in c.seat.inside) is in
    let m = at.1 in
    let up = posts_small (plain c.args.state.now) g.0 g.1 g.2 c.args.worker (seat_in c.seat.inside) m.act is (ap placed_in m.is ∙ ap placed_of m.phase) in
    let limit = c.get-limit.ensures.same ∙ ap (slice_index c.args.state.now.ends) c.stream_of.ensures.same in
    let small = c.get-limit.ensures.small in
    omega arith

pub returns : goal.returns
returns c =
    let g = c.requires.stood in
    let is = found_seat c.args.state.now c.args.worker c.index_mut-seat.result.now c.seat.inside g.2.sound c.requires.there c.index_mut-seat.ensures.value c.seat.view_is in
    let o = g.2.sound.seat c.args.worker (seat_in c.seat.inside) is in
    let at = c.requires.at (seat_in c.seat.inside) is in
    let m = at.1 in
    let p : Plain = plain c.args.state.now in
    let mid : PlainSeat = record (seat_in c.seat.inside) { txn = c.post_from.new.txn } in
    let new : PlainSeat = record (seat_in c.seat.inside) { txn = c.post_from.new.txn; outbox = c.post_from.new.outbox } in
    let posted = c.post_from.ensures.posted c.args.state.now.load.procs m.hand m.act o.txn.runs m.is m.phase in
    record {
      seat = seat_in c.seat.inside;
      hand = m.hand;
      act = m.act;
      new = new;
      is = is;
      hand_is = m.is;
      phase = m.phase;
      posted = posted;
      pieces = c.post_from.ensures.pieces;
      others = refl;
      sound = sound_outbox c.args.state.now.load c.args.worker mid c.post_from.new.outbox
          (sound_on c.args.state.now.load c.args.worker (seat_in c.seat.inside) mid m.hand (record m.hand { phase = Freeing m.act }) o m.is refl c.post_from.ensures.same posted refl (c.post_from.ensures.runs c.args.state.now.load.procs o.txn.runs) (c.post_from.ensures.stays o.txn.leaving) refl)
          (ap placed_in posted);
      after = refl;
    }
