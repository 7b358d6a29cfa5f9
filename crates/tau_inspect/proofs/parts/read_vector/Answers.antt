-- One component after the other.
use Rattle.std.proofs.Common.{ℕ, ◌+◌, ◌-◌, ◌<◌, ◌≡◌, List, length, refl, sym, ap, subst, ◌∙◌, arith}
use Rattle.std.specs.Prelude.{slice_set}
use Rattle.std.proofs.Math.ListN.{length-set}
use Rattle.std.proofs.lemmas.List.Elements.{All-from_get_or}
use Rattle.tau_base.specs.declared.limits.TheConstants.{MAX_LSN}
use Rattle.tau_report.specs.Lines.{vector_text}
use Rattle.tau_inspect.proofs.Cutting.{ReadTo, read_none, next_bad, next_read, last_bad, last_read}
use Rattle.tau_inspect.proofs.parts.read_vector.Goals as goal

pub loop-j-init : goal.loop-j-init
loop-j-init c = read_none (length c.args.lv.now) c.args.text.now c.args.lv.now refl

pub returns-in-Ok-None-clause-wide : goal.returns-in-Ok-None-clause-wide
returns-in-Ok-None-clause-wide c = c.loop-j.invariant.long

pub returns-in-Ok-None-clause-read : goal.returns-in-Ok-None-clause-read
returns-in-Ok-None-clause-read c =
    next_bad (length c.args.lv.now) c.args.text.now c.loop-j.j c.loop-j.lv c.loop-j.rest.now (omega (arith, c.loop-j-test.true, c.width-streams.ensures.low, c.width-streams.ensures.same)) c.loop-j.invariant (rw c.in-Ok-None.field-0-is at c.in-Ok-None.ensures)

pub loop-j-preserved : goal.loop-j-preserved
loop-j-preserved c =
    let read = rw c.in-Ok-Some.field-0-is at c.in-Ok-Some.ensures in
    subst (λ (l : List ℕ). ReadTo (length c.args.lv.now) c.args.text.now (c.loop-j.j + 1) l c.in-Ok-Some.more.now) (sym c.set.ensures)
    (next_read (length c.args.lv.now) c.args.text.now c.loop-j.j c.in-Ok-Some.position c.loop-j.lv c.loop-j.rest.now c.in-Ok-Some.more.now (omega (arith, c.loop-j-test.true, c.width-streams.ensures.low, c.width-streams.ensures.same)) c.loop-j.invariant read.0 read.1)

pub returns-in-Ok-None-read_position-clause-wide : goal.returns-in-Ok-None-read_position-clause-wide
returns-in-Ok-None-read_position-clause-wide c = c.loop-j.invariant.long

pub returns-in-Ok-None-read_position-clause-read : goal.returns-in-Ok-None-read_position-clause-read
returns-in-Ok-None-read_position-clause-read c =
    let none = rw c.in-Ok-None-read_position.field-0-is at c.in-Ok-None-read_position.ensures in
    last_bad (length c.args.lv.now) c.args.text.now c.loop-j.j c.loop-j.lv c.loop-j.rest.now (omega (arith, c.loop-j-test.false, c.loop-j.auto.j-end, c.width-streams.ensures.low, c.width-streams.ensures.same)) c.loop-j.invariant (λ p small e. none p small e)

pub returns-in-Ok-Some-read_position-clause-wide : goal.returns-in-Ok-Some-read_position-clause-wide
returns-in-Ok-Some-read_position-clause-wide c =
    ap length c.set-in-Ok-Some-read_position.ensures ∙ length-set c.loop-j.lv (c.width-streams.result - 1) c.in-Ok-Some-read_position.position ∙ c.loop-j.invariant.long

pub returns-in-Ok-Some-read_position-clause-read : goal.returns-in-Ok-Some-read_position-clause-read
returns-in-Ok-Some-read_position-clause-read c =
    let read = rw c.in-Ok-Some-read_position.field-0-is at c.in-Ok-Some-read_position.ensures in
    let n : ℕ = length c.args.lv.now in
    let last : ℕ = c.width-streams.result - 1 in
    let at : c.loop-j.j ≡ last = omega (arith, c.loop-j-test.false, c.loop-j.auto.j-end, c.width-streams.ensures.low) in
    let here : ReadTo n c.args.text.now last c.loop-j.lv c.loop-j.rest.now = subst (λ (k : ℕ). ReadTo n c.args.text.now k c.loop-j.lv c.loop-j.rest.now) at c.loop-j.invariant in
    let new : List ℕ = c.set-in-Ok-Some-read_position.new.self in
    let is : new ≡ slice_set c.loop-j.lv last c.in-Ok-Some-read_position.position = c.set-in-Ok-Some-read_position.ensures in (
      record {
        long = ap length is ∙ length-set c.loop-j.lv last c.in-Ok-Some-read_position.position ∙ here.long;
        small = All-from_get_or (λ p. p < MAX_LSN) new 0 (λ k lt. c.as_slice-known.ensures.small k);
      },
      ap vector_text is ∙ last_read n c.args.text.now last c.in-Ok-Some-read_position.position c.loop-j.lv c.loop-j.rest.now (omega (arith, c.width-streams.ensures.low, c.width-streams.ensures.same)) here read.1,
    )
