-- One component after the other.
use Rattle.std.proofs.Common.{ℕ, ◌+◌, ◌-◌, ◌<◌, ◌≡◌, ◌++◌, ◌∷◌, List, length, sym, ap, subst, ◌∙◌, arith}
use Rattle.std.specs.Prelude.{slice_set}
use Rattle.std.proofs.Math.ListN.{length-set}
use Rattle.std.proofs.lemmas.List.Elements.{All-from_get_or}
use Rattle.tau_base.specs.declared.limits.TheConstants.{MAX_LSN}
use Rattle.tau_report.specs.Lines.{vector_text}
use Rattle.tau_inspect.proofs.Cutting.{ReadTo, next_read}
use Rattle.tau_inspect.proofs.OnePass.{last_more}
use Rattle.tau_inspect.proofs.quick.vector.Goals as goal

pub loop-j-preserved : goal.loop-j-preserved
loop-j-preserved c =
    let n : ℕ = length c.args.lv.now in
    subst (λ (l : List ℕ). ReadTo n c.args.text.now (c.loop-j.j + 1) l c.in_ok-position.more.now) (sym c.set.ensures)
    (next_read n c.args.text.now c.loop-j.j c.in_ok-position.position c.loop-j.lv c.loop-j.rest.now c.in_ok-position.more.now (omega (arith, c.loop-j-test.true, c.width-last.ensures.low, c.width-last.ensures.same)) c.loop-j.invariant c.in_ok-position.ensures.0 c.in_ok-position.ensures.1)

pub returns-clause-read : goal.returns-clause-read
returns-clause-read c =
    let n : ℕ = length c.args.lv.now in
    let last : ℕ = c.width-last.result - 1 in
    let p : ℕ = c.in_ok-position-2.position in
    let at : c.loop-j.j ≡ last = omega (arith, c.loop-j-test.false, c.loop-j.auto.j-end, c.width-last.ensures.low) in
    let here : ReadTo n c.args.text.now last c.loop-j.lv c.loop-j.rest.now = subst (λ (k : ℕ). ReadTo n c.args.text.now k c.loop-j.lv c.loop-j.rest.now) at c.loop-j.invariant in
    let new : List ℕ = c.set-2.new.self in
    let is : new ≡ slice_set c.loop-j.lv last p = c.set-2.ensures in (
      record {
        long = ap length is ∙ length-set c.loop-j.lv last p ∙ here.long;
        small = All-from_get_or (λ q. q < MAX_LSN) new 0 (λ k lt. c.as_slice-known.ensures.small k);
      },
      last_more n c.args.text.now last p c.loop-j.lv c.loop-j.rest.now c.in_ok-position-2.more.now (omega (arith, c.width-last.ensures.low, c.width-last.ensures.same)) here c.in_ok-position-2.ensures.1
          ∙ ap (λ (l : List ℕ). vector_text l ++ 10 ∷ c.in_ok-position-2.more.now) (sym is),
    )
