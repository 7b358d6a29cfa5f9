use Rattle.std.proofs.Common.{ℕ, ◌+◌, ◌≡◌, ◌≤◌, ◌-◌, List, length, sym, ap, subst, ◌∙◌, arith, length-append}
use Rattle.std.specs.Prelude.{slice_index, slice_set, vec_capacity, vec_len}
use Rattle.tau_outbox.specs.Pieces.{bytes_of}
use Rattle.tau_outbox.specs.Gather.{run}
use Rattle.tau_core.specs.State.{Plain, plain}
use Rattle.tau_core.proofs.Found.{found_part, found_seat, part_in, seat_in}
use Rattle.tau_core.proofs.Spellings.{moves_of}
use Rattle.tau_core.proofs.GathersPosted.{posted_bound}
use Rattle.tau_core.proofs.GathersAll.{posted_fits, posted_roomy}
use Rattle.tau_core.proofs.GathersOn.{next_posted}
use Rattle.tau_core.proofs.gather.gather_from.Goals as goal

pub gather_reserved-upto-requires : goal.gather_reserved-upto-requires
gather_reserved-upto-requires c =
    let p : Plain = plain c.args.state.now in
    let g = c.requires.stood in
    let is = found_part c.args.state.now c.args.stream c.index_mut-part.result.now c.part.inside g.2.sound c.requires.there c.index_mut-part.ensures.value c.part.view_is in
    let seat_is = found_seat c.args.state.now c.args.worker c.index_mut-seat.result.now c.seat.inside g.2.sound c.requires.worker c.index_mut-seat.ensures.value c.seat.view_is in
    let fits = posted_fits p g c.args.stream c.requires.there c.requires.going c.requires.roomy c.args.worker c.requires.whose (part_in c.part.inside) (seat_in c.seat.inside) is seat_is in
    let next = c.get-next.ensures.same in
    let used : vec_len c.part.inside.body ≡ length c.part.inside.body.items = c.part.inside.body.ok.0 in
    let few : length (bytes_of (run c.get-next.result (vec_len c.part.inside.body) c.seat.inside.outbox.pieces)) ≤ vec_capacity c.part.inside.body - vec_len c.part.inside.body =
    subst (λ (n : ℕ). length (bytes_of (run n (vec_len c.part.inside.body) c.seat.inside.outbox.pieces)) ≤ vec_capacity c.part.inside.body - vec_len c.part.inside.body) (sym next)
    (subst (λ (n : ℕ). length (bytes_of (run (slice_index p.gathered c.args.stream) n c.seat.inside.outbox.pieces)) ≤ vec_capacity c.part.inside.body - vec_len c.part.inside.body) (sym used) fits) in
    omega arith

pub set-requires-clause-small : goal.set-requires-clause-small
set-requires-clause-small c =
    let p : Plain = plain c.args.state.now in
    let g = c.requires.stood in
    let is = found_part c.args.state.now c.args.stream c.index_mut-part.result.now c.part.inside g.2.sound c.requires.there c.index_mut-part.ensures.value c.part.view_is in
    let seat_is = found_seat c.args.state.now c.args.worker c.index_mut-seat.result.now c.seat.inside g.2.sound c.requires.worker c.index_mut-seat.ensures.value c.seat.view_is in
    let q = c.gather_reserved-upto.ensures.gathers in
    let moves = moves_of (slice_index p.gathered c.args.stream) c.get-next.result c.seat.inside.outbox c.gather_reserved-upto.new.self c.part.inside.body.items c.gather_reserved-upto.new.body.items c.gather_reserved-upto.result c.get-next.ensures.same q c.gather_reserved-upto.ensures.room in
    let bound : slice_index p.gathered c.args.stream + length (bytes_of q.taken) ≤ slice_index p.ends c.args.stream =
    posted_bound p g.0 g.1 g.2 c.args.stream c.requires.there c.requires.going c.args.worker c.requires.whose (part_in c.part.inside) (seat_in c.seat.inside) c.gather_reserved-upto.new.self c.gather_reserved-upto.new.body.items 0 is seat_is moves in
    let past = q.past in
    let next = c.get-next.ensures.same in
    let limit = c.get-limit.ensures.same in
    let small = c.get-limit.ensures.small in
    omega arith

pub returns-clause-moves : goal.returns-clause-moves
returns-clause-moves c =
    let p : Plain = plain c.args.state.now in
    let g = c.requires.stood in
    let is = found_part c.args.state.now c.args.stream c.index_mut-part.result.now c.part.inside g.2.sound c.requires.there c.index_mut-part.ensures.value c.part.view_is in
    let seat_is = found_seat c.args.state.now c.args.worker c.index_mut-seat.result.now c.seat.inside g.2.sound c.requires.worker c.index_mut-seat.ensures.value c.seat.view_is in
    let q = c.gather_reserved-upto.ensures.gathers in
    let moves = moves_of (slice_index p.gathered c.args.stream) c.get-next.result c.seat.inside.outbox c.gather_reserved-upto.new.self c.part.inside.body.items c.gather_reserved-upto.new.body.items c.gather_reserved-upto.result c.get-next.ensures.same q c.gather_reserved-upto.ensures.room in
    record {
      stream = part_in c.part.inside;
      seat = seat_in c.seat.inside;
      outbox = c.gather_reserved-upto.new.self;
      seat_is = seat_is;
      longer = c.gather_reserved-upto.new.body.items;
      spare = vec_capacity c.gather_reserved-upto.new.body - vec_len c.gather_reserved-upto.new.body;
      is = is;
      moves = moves;
      spares = (let kept = c.gather_reserved-upto.ensures.kept in let e = ap (length {A = ℕ}) q.bytes ∙ length-append c.part.inside.body.items (bytes_of q.taken) in let a = c.part.inside.body.ok.0 in let b = c.gather_reserved-upto.new.body.ok in omega arith);
      after = ap (λ (v : List ℕ). record p { streams = slice_set p.streams c.args.stream (record (part_in c.part.inside) { body = c.gather_reserved-upto.new.body.items; room = vec_capacity c.gather_reserved-upto.new.body - vec_len c.gather_reserved-upto.new.body }); seats = slice_set p.seats c.args.worker (record (seat_in c.seat.inside) { outbox = c.gather_reserved-upto.new.self }); gathered = v })
          (c.set.ensures ∙ ap (slice_set p.gathered c.args.stream) (q.past ∙ ap (λ (n : ℕ). n + length (bytes_of q.taken)) c.get-next.ensures.same));
    }

pub returns-clause-next : goal.returns-clause-next
returns-clause-next c =
    let moves = returns-clause-moves c in
    next_posted c.args.stream (plain c.args.state.now) _ c.args.worker c.requires.stood c.requires.there c.requires.whose c.requires.going moves
    (posted_roomy (plain c.args.state.now) c.requires.stood c.args.stream c.requires.there c.requires.going c.requires.roomy c.args.worker _ moves)
