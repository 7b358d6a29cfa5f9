use Rattle.std.proofs.Common.{◌≡◌, ◌+◌, ◌≤◌, [], ◌∷◌, ◌++◌, subst, sym, ap, ◌∙◌, refl, arith}
use Rattle.tau_base.specs.declared.limits.TheConstants.{SHARDS}
use Rattle.tau_machine.specs.Events.{Post}
use Rattle.tau_outbox.specs.declared.Piece.{Piece}
use Rattle.tau_outbox.specs.Pieces.{PlainOutbox}
use Rattle.tau_txn.specs.Txn.{bytes_in}
use Rattle.tau_core.specs.State.{Plain}
use Rattle.tau_rule.specs.Knows.{Knows}
use Rattle.tau_rule.specs.Boxes.{BoxOf, box_in}
use Rattle.tau_desk.proofs.Posting.{post_rooms, post_order, post_steps, steps_holding}
use Rattle.tau_desk.proofs.work.post.Goals as goal

pub post_from-requires-clause-room : goal.post_from-requires-clause-room
post_from-requires-clause-room g c =
    let held = c.take_outbox-outbox.ensures.held in
    let rooms = post_rooms c.args.desk.now.table.shared.key.value c.args.worker c.args.seat.now.me c.args.txn.now c.args.start c.requires.ready c.requires.posts held.0 (c.take_outbox-outbox.result.0.value, c.take_outbox-outbox.result.1.value)
    c.args.room.now.records c.args.room.now.calls held.3 held.2 c.requires.room.0 in
    let low = c.requires.room.1 in
    subst (λ (o : PlainOutbox). 1 ≤ o.room) (sym c.deref_mut.ensures.value) (omega (arith, rooms.0, low))

pub post_from-requires-clause-order : goal.post_from-requires-clause-order
post_from-requires-clause-order g c =
    let held = c.take_outbox-outbox.ensures.held in
    subst (λ (o : PlainOutbox). Rattle.tau_outbox.specs.Pieces.end_of 0 o.pieces ≤ c.args.start) (sym c.deref_mut.ensures.value)
    (post_order c.args.desk.now.table.shared.key.value c.args.worker c.args.seat.now.me c.args.txn.now c.args.start c.requires.ready c.requires.posts held.0 (c.take_outbox-outbox.result.0.value, c.take_outbox-outbox.result.1.value) held.3 held.2)

pub give_outbox-requires-clause-event : goal.give_outbox-requires-clause-event
give_outbox-requires-clause-event g c =
    let origin : Plain = c.args.desk.now.table.shared.key.value in
    let r = c.requires.ready in
    let q = c.requires.posts in
    let held = c.take_outbox-outbox.ensures.held in
    let b : BoxOf = (c.take_outbox-outbox.result.0.value, c.take_outbox-outbox.result.1.value) in
    let b' : BoxOf = (c.post_from.new.outbox, c.take_outbox-outbox.result.1.value) in
    let rooms = post_rooms origin c.args.worker c.args.seat.now.me c.args.txn.now c.args.start r q held.0 b c.args.room.now.records c.args.room.now.calls held.3 held.2 c.requires.room.0 in
    let before : c.deref_mut.result.now ≡ c.take_outbox-outbox.result.0.value = c.deref_mut.ensures.value in
    let piece : Piece = record { start = c.args.start; bytes = bytes_in c.args.txn.now } in (
      Post c.args.worker,
      (
        b',
        refl,
        record {
          taken = held.0;
          role = r.role;
          worker = r.worker;
          before = b;
          held = ap (λ m. m.0.hand) held.1;
          carried = ap (λ m. m.1) held.1;
          roles = ap (λ m. m.0.roles) held.1 ∙ r.seat.roles;
          share = r.share;
          was = held.2;
          there = r.there;
          records = (let e = c.post_from.ensures.room in let f = ap (λ (o : PlainOutbox). o.room) before in let low = c.requires.room.1 in omega (arith, rooms.0, e, f, low));
          calls = rooms.1;
          none = tt;
          steps = subst (λ (v : Knows). Rattle.tau_rule.specs.Boxes.StepsBox origin (Post c.args.worker) v c.args.worker r.worker (Rattle.tau_rule.specs.Steps.next_worker origin.load r.worker c.post_from.new.txn) b b') (sym (ap (λ m. m.0) held.1))
              (steps_holding origin (Post c.args.worker) c.args.seat.now.me.0 (SHARDS + c.args.worker) held.0 c.args.worker r.worker (Rattle.tau_rule.specs.Steps.next_worker origin.load r.worker c.post_from.new.txn) b b'
              (post_steps origin c.args.worker c.args.seat.now.me c.args.txn.now c.args.start r q c.post_from.new.txn b b' piece
              (c.post_from.ensures.posted origin.load.procs q.hand q.act r.runs q.is q.phase) refl
              (c.post_from.ensures.pieces ∙ ap (λ (o : PlainOutbox). o.pieces ++ piece ∷ []) before) refl));
        },
      ),
    )

pub returns-clause-call : goal.returns-clause-call
returns-clause-call g c =
    let origin : Plain = c.args.desk.now.table.shared.key.value in
    let r = c.requires.ready in
    let q = c.requires.posts in
    record {
      posts = record { hand = q.hand; act = q.act; is = q.is; phase = q.phase };
      is = c.post_from.ensures.posted origin.load.procs q.hand q.act r.runs q.is q.phase;
      worker = record { runs = c.post_from.ensures.runs origin.load.procs r.runs; same = c.post_from.ensures.same; stays = c.post_from.ensures.stays };
    }
