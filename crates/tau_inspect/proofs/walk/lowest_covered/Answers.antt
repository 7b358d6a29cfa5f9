-- The first stream that has a covered record next is the lowest.
use Rattle.std.proofs.Common.{ℕ, ap, sym, ◌∙◌, arith, below_more}
use Rattle.tau_inspect.specs.Walks.{head_of, head_passes}
use Rattle.tau_inspect.proofs.Steps.{is_lowest}
use Rattle.tau_inspect.proofs.walk.lowest_covered.Goals as goal

pub returns-then-is_next_covered : goal.returns-then-is_next_covered
returns-then-is_next_covered c = is_lowest c.args.all.now c.args.walk.now c.loop-j.j (omega (arith, c.loop-j-test.true, c.len-j-end.ensures)) c.loop-j.invariant (ap (λ (i : ℕ). head_passes c.args.walk.now.reach (head_of c.args.all.now i c.loop-j.j)) (sym c.next_index.ensures) ∙ sym c.is_next_covered.ensures ∙ c.if-is_next_covered.true)

pub loop-j-preserved : goal.loop-j-preserved
loop-j-preserved c = below_more _ _ c.loop-j.invariant (ap (λ (i : ℕ). head_passes c.args.walk.now.reach (head_of c.args.all.now i c.loop-j.j)) (sym c.next_index.ensures) ∙ sym c.is_next_covered.ensures ∙ c.if-is_next_covered.false)
