use Rattle.std.proofs.Common.{ℕ, ◌+◌, ◌≡◌, ◌≤◌, List, [], ◌∷◌, ◌++◌, length, refl, sym, ap, subst, ◌∙◌, arith}
use Rattle.std.specs.Prelude.{Some, slice_get, slice_index, slice_set}
use Rattle.tau_base.specs.Modes.{format_of}
use Rattle.tau_outbox.specs.declared.Piece.{Piece}
use Rattle.tau_outbox.specs.Pieces.{end_of}
use Rattle.tau_core.specs.Plain.{PlainStream}
use Rattle.tau_core.specs.State.{Plain, plain}
use Rattle.tau_core.specs.Anchors.{Reserves}
use Rattle.tau_core.proofs.Found.{found_part, part_in, part_within}
use Rattle.tau_core.proofs.Lists.{set_got}
use Rattle.tau_core.proofs.Anchors.{own_end}
use Rattle.tau_core.proofs.anchor.place_anchor.Goals as goal
use Rattle.tau_base.proofs.Lists.{some_at}

reserves : (p : Plain) (j : ℕ) (stream : PlainStream) → slice_get p.streams j ≡ Some stream → Reserves j p p
reserves p j stream is = record { stream = stream; own = stream.own; room = stream.room; is = is; pieces = refl; after = ap (λ (l : List PlainStream). record p { streams = l }) (sym (set_got p.streams j stream is)) }

pub returns-in_default : goal.returns-in_default
returns-in_default c =
    let found_one = some_at c.args.state.now.streams.items c.args.stream (part_within c.args.state.now c.args.stream c.requires.stood.2.sound c.requires.there) in
    (c.requires.going, reserves (plain c.args.state.now) c.args.stream found_one.0 found_one.1)

pub post-requires-clause-order : goal.post-requires-clause-order
post-requires-clause-order c =
    let g = c.requires.stood in
    let is = found_part c.args.state.now c.args.stream c.index_mut-part.result.now c.part.inside g.2.sound c.requires.there c.index_mut-part.ensures.value c.part.view_is in
    let low = own_end (plain c.args.state.now) g.0 g.1 g.2 c.args.stream c.requires.there (part_in c.part.inside) is in
    let start = c.get-start.ensures.same in
    subst (λ (l : List Piece). end_of 0 l ≤ c.get-start.result) (sym c.reserve.ensures.pieces) (omega arith)

pub returns-in-Ok-keep : goal.returns-in-Ok-keep
returns-in-Ok-keep c =
    let p : Plain = plain c.args.state.now in
    let g = c.requires.stood in
    let is = found_part c.args.state.now c.args.stream c.index_mut-part.result.now c.part.inside g.2.sound c.requires.there c.index_mut-part.ensures.value c.part.view_is in
    let start = c.get-start.ensures.same in
    let past : c.get-start.result + c.len.result ≡ slice_index p.ends c.args.stream + length c.in-Ok.bytes.items = (let e = c.len.ensures in let o = c.in-Ok.bytes.ok in omega arith) in (
      c.requires.going,
      record {
        stream = part_in c.part.inside;
        own = c.post.new.self;
        bytes = c.in-Ok.bytes.items;
        is = is;
        few =
            let before : c.from.result ≡ slice_index p.load.opening.anchors.items c.args.stream = c.from.ensures ∙ ap (λ (l : List ℕ). slice_index l c.args.stream) c.as_slice.ensures.value in
            let count : c.len-2.result ≡ length c.part.inside.anchors.items = (let e = c.len-2.ensures in let o = c.part.inside.anchors.ok in omega arith) in
            (let n = c.if-number-ge-MAX_ANCHORS.false in omega arith);
        pieces = c.post.ensures.pieces ∙ ap (λ (x : List Piece × ℕ). x.0 ++ record { start = x.1; bytes = c.in-Ok.bytes.items } ∷ []) (λ i. (c.reserve.ensures.pieces i, start i));
        spelled = c.in-Ok.ensures (format_of p.load.mode);
        after = ap (λ (x : List (List ℕ) × List ℕ). record p { streams = slice_set p.streams c.args.stream (record (part_in c.part.inside) { own = c.post.new.self; anchors = x.0 }); ends = x.1 }) (λ i. (c.in-Ok-keep.ensures.ok i, (c.set.ensures ∙ ap (slice_set p.ends c.args.stream) past) i));
      },
      start,
    )

pub returns-then-is_err : goal.returns-then-is_err
returns-then-is_err c =
    let g = c.requires.stood in
    let is = found_part c.args.state.now c.args.stream c.index_mut-part.result.now c.part.inside g.2.sound c.requires.there c.index_mut-part.ensures.value c.part.view_is in
    (c.requires.going, record { stream = part_in c.part.inside; own = c.reserve.new.self; room = (part_in c.part.inside).room; is = is; pieces = c.reserve.ensures.pieces; after = refl })

pub returns-in-Err : goal.returns-in-Err
returns-in-Err c =
    let p : Plain = plain c.args.state.now in
    let g = c.requires.stood in
    let is = found_part c.args.state.now c.args.stream c.index_mut-part.result.now c.part.inside g.2.sound c.requires.there c.index_mut-part.ensures.value c.part.view_is in (
      c.requires.going,
      record {
        stream = part_in c.part.inside;
        own = c.reserve.new.self;
        room = (part_in c.part.inside).room;
        is = is;
        pieces = c.reserve.ensures.pieces;
        after = ap (λ (x : List (List ℕ)). record p { streams = slice_set p.streams c.args.stream (record (part_in c.part.inside) { own = c.reserve.new.self; anchors = x }) }) c.in-Err.ensures.err;
      },
    )

pub returns-then-number-ge-MAX_ANCHORS : goal.returns-then-number-ge-MAX_ANCHORS
returns-then-number-ge-MAX_ANCHORS c =
    let p : Plain = plain c.args.state.now in
    let g = c.requires.stood in
    let is = found_part c.args.state.now c.args.stream c.index_mut-part.result.now c.part.inside g.2.sound c.requires.there c.index_mut-part.ensures.value c.part.view_is in
    (c.requires.going, record { stream = part_in c.part.inside; own = c.part.inside.own; room = (part_in c.part.inside).room; is = is; pieces = refl; after = ap (λ (x : PlainStream). record p { streams = slice_set p.streams c.args.stream x }) (sym c.part.view_is) })
