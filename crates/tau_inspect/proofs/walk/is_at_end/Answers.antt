-- One stream more has none, or all have none.
use Rattle.std.proofs.Common.{ℕ, ap, sym, ◌∙◌, arith, below_more}
use Rattle.std.specs.Prelude.{is_some}
use Rattle.tau_inspect.specs.Walks.{head_of}
use Rattle.tau_inspect.proofs.Steps.{none_test}
use Rattle.tau_inspect.proofs.walk.is_at_end.Goals as goal

pub loop-j-preserved : goal.loop-j-preserved
loop-j-preserved c = below_more _ _ c.loop-j.invariant (none_test _ (ap (λ (i : ℕ). is_some (head_of c.args.all.now i c.loop-j.j)) (sym c.next_index.ensures) ∙ sym c.is_next.ensures ∙ c.if-is_next.false))

pub returns : goal.returns
returns c = λ e k lt. c.loop-j.invariant k (omega (arith, lt, c.loop-j-test.false, c.len-j-end.ensures))
