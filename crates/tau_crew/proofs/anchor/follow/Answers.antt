use Rattle.std.proofs.Common.{◌++◌, ◌∷◌, [], ◌∙◌, ap, arith}
use Rattle.std.specs.Prelude.{slice_index}
use Rattle.tau_desk.specs.Seats.{PlainManagerSeat}
use Rattle.tau_desk.specs.Shares.{PlainStock}
use Rattle.tau_crew.proofs.Anchoring.{apart_places, apart_stays, before_is}
use Rattle.tau_crew.proofs.anchor.follow.Goals as goal

pub returns-then-durable-marks-lt-ANCHOR_BYTES-clause-apart : goal.returns-then-durable-marks-lt-ANCHOR_BYTES-clause-apart
returns-then-durable-marks-lt-ANCHOR_BYTES-clause-apart g c = λ base before a block.
    let k = c.look_others.ensures.keeps in
    let same = c.sweep.ensures in
    apart_stays base before c.args.durable c.args.marks.now.last c.args.marks.now.placed c.args.seat.now c.sweep.new.seat a block.0
    (λ few. omega (arith, c.if-durable-marks-lt-ANCHOR_BYTES.true, c.requires.low))
    (ap (λ (x : PlainManagerSeat). x.stream) same ∙ k.stream)
    (ap (λ (x : PlainManagerSeat). x.me.0.opened) same ∙ k.opened)
    (ap (λ (x : PlainManagerSeat). x.stock.anchors) same ∙ ap (λ (o : PlainStock). o.anchors) c.look_others.ensures.stock)

pub returns-then-is_full-clause-apart : goal.returns-then-is_full-clause-apart
returns-then-is_full-clause-apart g c = λ base before a block.
    let k = c.look_others.ensures.keeps in
    let same = c.sweep.ensures in
    let full = c.is_full.ensures.full c.if-is_full.true in
    let are = before_is c.args.desk.now c.args.seat.now c.args.stream c.requires.opened c.requires.stream in
    apart_stays base before c.args.durable c.args.marks.now.last c.args.marks.now.placed c.args.seat.now c.sweep.new.seat a block.0
    (λ few. absurd (omega (arith, few, full, are)))
    (ap (λ (x : PlainManagerSeat). x.stream) same ∙ k.stream)
    (ap (λ (x : PlainManagerSeat). x.me.0.opened) same ∙ k.opened)
    (ap (λ (x : PlainManagerSeat). x.stock.anchors) same ∙ ap (λ (o : PlainStock). o.anchors) c.look_others.ensures.stock)

pub returns-clause-apart : goal.returns-clause-apart
returns-clause-apart g c = λ base before a block.
    let swept = c.sweep.new.seat in
    let k = c.look_others.ensures.keeps in
    let same = c.sweep.ensures in
    let room = c.is_full.ensures.room c.if-is_full.false in
    let are = before_is c.args.desk.now c.args.seat.now c.args.stream c.requires.opened c.requires.stream in
    apart_places base before c.args.durable c.args.marks.now.last c.args.marks.now.placed c.args.seat.now c.anchor.new.seat swept.seen a block
    (omega (arith, room, are))
    (omega (arith, c.if-durable-marks-lt-ANCHOR_BYTES.false, c.requires.low))
    (c.anchor.ensures.keeps.stream ∙ ap (λ (x : PlainManagerSeat). x.stream) same ∙ k.stream)
    (c.anchor.ensures.keeps.opened ∙ ap (λ (x : PlainManagerSeat). x.me.0.opened) same ∙ k.opened)
    (c.in_ok-anchor.ensures.more ∙ ap (λ (x : PlainManagerSeat). x.stock.anchors ++ swept.seen ∷ []) same ∙ ap (λ (o : PlainStock). o.anchors ++ swept.seen ∷ []) c.look_others.ensures.stock)
    (ap (λ (x : PlainManagerSeat). slice_index x.seen c.args.seat.now.stream) same ∙ k.stored ∙ ap (slice_index c.args.seat.now.seen) c.requires.stream ∙ c.requires.stored)
