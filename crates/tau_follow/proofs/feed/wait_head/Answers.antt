-- The reader of the stream waits on, or is as it was, and the others are as they were.
use Rattle.std.proofs.Common.{set, subst, arith, [], List}
use Rattle.std.specs.Prelude.{slice_index_or}
use Rattle.tau_base.proofs.Lists.{some_at}
use Rattle.tau_record.specs.declared.entry.Placed.{Placed}
use Rattle.tau_follow_laws.specs.Feeding.{Piece, with_piece}
use Rattle.tau_follow.specs.Feeding.{AreRead}
use Rattle.tau_follow.proofs.Feeding.{got_at, read_fed}
use Rattle.tau_follow.proofs.Cut.{set_same, read_as}
use Rattle.tau_follow.proofs.feed.wait_head.Goals as goal

pub returns-clause-put : goal.returns-clause-put
returns-clause-put c = λ f n fed streams lt a yes.
    (let p : Piece = record { stream = c.args.stream; bytes = c.args.bytes.now } in
    let wide = a.wide in
    let ps = some_at streams c.args.stream (omega (arith, lt, wide)) in
    let there = got_at c.args.readers.now.items c.args.stream c.index_mut.result.now (omega (arith, c.if-j-len.false, c.len.ensures)) c.index_mut.ensures.value in
    let w = c.wait_head.ensures.put f n (slice_index_or fed c.args.stream []) ps.0 (a.each c.args.stream ps.0 c.index_mut.result.now ps.1 there) yes in
    subst (λ (l : List (List Placed)). AreRead f n (with_piece fed p) l (set c.args.readers.now.items c.args.stream c.wait_head.new.self)) (set_same streams c.args.stream ps.0 ps.1) (read_fed f n fed streams c.args.readers.now.items p ps.0 c.wait_head.new.self a (omega (arith, lt, wide)) w.0 w.1))

pub returns-clause-same : goal.returns-clause-same
returns-clause-same c = λ f n fed streams lt a no.
    (let wide = a.wide in
    let ps = some_at streams c.args.stream (omega (arith, lt, wide)) in
    let there = got_at c.args.readers.now.items c.args.stream c.index_mut.result.now (omega (arith, c.if-j-len.false, c.len.ensures)) c.index_mut.ensures.value in
    read_as f n fed streams c.args.readers.now.items c.args.stream ps.0 c.wait_head.new.self a ps.1 (c.wait_head.ensures.same f n (slice_index_or fed c.args.stream []) ps.0 (a.each c.args.stream ps.0 c.index_mut.result.now ps.1 there) no))
