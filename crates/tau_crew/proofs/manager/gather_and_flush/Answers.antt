use Rattle.std.proofs.Common.{ℕ, List, [], ◌++◌, ◌≡◌, ◌⊎◌, ◌≤◌, length, ◌∙◌, ap, sym, subst, refl, arith}
use Rattle.tau_base.proofs.Logic.{on_err}
use Rattle.tau_outbox.specs.Pieces.{bytes_of}
use Rattle.tau_crew.specs.Gathering.{GathersMore}
use Rattle.tau_crew.proofs.Gathering.{long_bytes}
use Rattle.tau_crew.proofs.Driving.{driven_loaded, driven_short}
use Rattle.tau_crew.proofs.manager.gather_and_flush.Goals as goal

pub returns-in_err-gather_all-clause-short : goal.returns-in_err-gather_all-clause-short
returns-in_err-gather_all-clause-short g c = on_err c.from_residual.result (λ format n j base w0 d all.
    driven_short format n j base w0 g.met.D.Disk.seen_now c.args.seat.now c.gather_all.new.seat c.clear.new.self.items c.gather_all.new.body.items c.args.writer.now c.args.writer.now d c.gather_all.ensures refl refl refl)

pub hand_over-requires-clause-whole : goal.hand_over-requires-clause-whole
hand_over-requires-clause-whole g c =
    let (format, n, j, base, w0, d) = c.requires.driven in
    let e = c.gather_all.ensures in
    let body : c.deref.result.now ≡ bytes_of e.pieces = c.deref.ensures.value ∙ e.bytes ∙ ap (λ (b : List ℕ). b ++ bytes_of e.pieces) c.clear.ensures.items in
    subst (λ (b : List ℕ). (b ≡ []) ⊎ (5 ≤ length b)) (sym body) (long_bytes e.pieces (e.long d.long))

pub flush-requires-clause-driven : goal.flush-requires-clause-driven
flush-requires-clause-driven g c =
    let (format, n, j, base, w0, d) = c.requires.driven in
    let from_none : GathersMore c.args.seat.now c.gather_all.new.seat [] c.gather_all.new.body.items = subst (λ (b : List ℕ). GathersMore c.args.seat.now c.gather_all.new.seat b c.gather_all.new.body.items) c.clear.ensures.items c.gather_all.ensures in (
      format,
      n,
      j,
      base,
      w0,
      driven_loaded format n j base w0 g.met.D.Disk.seen_now c.args.seat.now c.gather_all.new.seat c.gather_all.new.body.items c.args.writer.now c.hand_over.new.writer d c.requires.flushed (sym c.failed.ensures ∙ c.if-failed.false) from_none
          (c.in_ok-upto.ensures.left ∙ c.deref.ensures.value) c.hand_over.ensures.disk c.hand_over.ensures.durable c.hand_over.ensures.works c.hand_over.ensures.ready,
    )

pub returns-clause-keeps : goal.returns-clause-keeps
returns-clause-keeps g c = λ format n j base w0 d.
    let from_none : GathersMore c.args.seat.now c.gather_all.new.seat [] c.gather_all.new.body.items = subst (λ (b : List ℕ). GathersMore c.args.seat.now c.gather_all.new.seat b c.gather_all.new.body.items) c.clear.ensures.items c.gather_all.ensures in
    c.flush.ensures.keeps format n j base w0 (driven_loaded format n j base w0 g.met.D.Disk.seen_now c.args.seat.now c.gather_all.new.seat c.gather_all.new.body.items c.args.writer.now c.hand_over.new.writer d c.requires.flushed (sym c.failed.ensures ∙ c.if-failed.false) from_none
    (c.in_ok-upto.ensures.left ∙ c.deref.ensures.value) c.hand_over.ensures.disk c.hand_over.ensures.durable c.hand_over.ensures.works c.hand_over.ensures.ready)

pub returns-clause-block : goal.returns-clause-block
returns-clause-block g c =
    let b = c.flush.ensures.block in
    let e = c.hand_over.ensures.durable in
    (let x = b.0 in omega (arith, x, e), let y = b.1 in omega (arith, y, e))

pub returns-in_err-upto-clause-short : goal.returns-in_err-upto-clause-short
returns-in_err-upto-clause-short g c = on_err c.from_residual-in_err-upto.result (λ format n j base w0 d all.
    driven_short format n j base w0 g.met.D.Disk.seen_now c.args.seat.now c.gather_all.new.seat c.clear.new.self.items c.gather_all.new.body.items c.args.writer.now c.hand_over.new.writer d c.gather_all.ensures c.hand_over.ensures.disk c.hand_over.ensures.durable c.hand_over.ensures.works)
