use Rattle.std.proofs.Common.{ℕ, ◌≡◌, ◌∙◌, ap, sym, subst}
use Rattle.std.specs.Prelude.{slice_index}
use Rattle.tau_base.proofs.Logic.{on_err}
use Rattle.tau_crew.specs.Driving.{IsApart, IsBlock}
use Rattle.tau_crew.proofs.Anchoring.{apart_same, driven_keeps}
use Rattle.tau_crew.proofs.Driving.{short_of}
use Rattle.tau_crew.proofs.manager.manager_turn.Goals as goal

pub follow-requires-clause-stored : goal.follow-requires-clause-stored
follow-requires-clause-stored g c =
    let (format, n, j, base, w0, d) = c.requires.driven in
    let now = c.in_ok-gather_and_flush.ensures.keeps format n j base w0 d in
    let same : c.args.stream ≡ j = sym c.requires.stream ∙ d.stream in
    ap (slice_index c.gather_and_flush.new.seat.seen) same ∙ now.stored ∙ sym c.durable-durable.ensures

pub returns-in_ok-follow-in-Flushed-clause-keeps : goal.returns-in_ok-follow-in-Flushed-clause-keeps
returns-in_ok-follow-in-Flushed-clause-keeps g c = λ format n j base w0 d.
    driven_keeps format n j base w0 c.gather_and_flush.new.seat c.follow.new.seat c.gather_and_flush.new.writer (c.in_ok-gather_and_flush.ensures.keeps format n j base w0 d) c.follow.ensures.keeps

pub returns-in_ok-follow-in-Flushed-clause-apart : goal.returns-in_ok-follow-in-Flushed-clause-apart
returns-in_ok-follow-in-Flushed-clause-apart g c = λ base a.
    let before = c.args.writer.now.durable in
    let now = apart_same base before c.args.marks.now.last c.args.marks.now.placed c.args.seat.now c.gather_and_flush.new.seat a c.gather_and_flush.ensures.own.2 c.gather_and_flush.ensures.own.1 c.gather_and_flush.ensures.anchors in
    let block : IsBlock before c.durable-durable.result = subst (λ (d : ℕ). IsBlock before d) (sym c.durable-durable.ensures) c.in_ok-gather_and_flush.ensures.block in
    subst (λ (d : ℕ). IsApart base d c.follow.new.marks.last c.follow.new.marks.placed c.follow.new.seat) c.durable-durable.ensures (c.in_ok-follow-in-Flushed.ensures.apart base before now block)

pub returns-in_err-follow-in-Flushed-clause-short : goal.returns-in_err-follow-in-Flushed-clause-short
returns-in_err-follow-in-Flushed-clause-short g c = on_err c.from_residual-in_err-follow-in-Flushed.result (λ format n j base w0 d all.
    short_of format n j base w0 c.follow.new.seat c.gather_and_flush.new.writer
    (driven_keeps format n j base w0 c.gather_and_flush.new.seat c.follow.new.seat c.gather_and_flush.new.writer (c.in_ok-gather_and_flush.ensures.keeps format n j base w0 d) c.follow.ensures.keeps))

pub returns-in_err-gather_and_flush-clause-short : goal.returns-in_err-gather_and_flush-clause-short
returns-in_err-gather_and_flush-clause-short g c = on_err c.from_residual.result c.in_err-gather_and_flush.ensures.short
