use Rattle.std.proofs.Common.{◌<◌, ◌^◌, arith}
use Rattle.tau_text.proofs.Numbers.{below_tens}
use Rattle.tau_text.proofs.spelled.few_digits.Goals as goal

pub overflow_mul-value : goal.overflow_mul-value
overflow_mul-value c =
    let lt : c.loop-b.value < 10 ^ 17 = below_tens c.loop-b.value c.loop-b.b-index 17 c.loop-b.invariant.small (omega arith) in
    omega arith

pub overflow_add-value : goal.overflow_add-value
overflow_add-value c =
    let lt : c.loop-b.value < 10 ^ 17 = below_tens c.loop-b.value c.loop-b.b-index 17 c.loop-b.invariant.small (omega arith) in
    omega arith

pub returns-clause-small : goal.returns-clause-small
returns-clause-small c = below_tens c.loop-b.value c.loop-b.b-index 18 c.loop-b.invariant.small (omega arith)
