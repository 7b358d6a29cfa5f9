-- The number of no step.
use Rattle.std.proofs.Common.{arith}
use Rattle.tau_inspect.proofs.ReadWords.{step_bad}
use Rattle.tau_inspect.proofs.words.read_step.Goals as goal

pub returns-then-step-lt1 : goal.returns-then-step-lt1
returns-then-step-lt1 c =
    let read = rw c.in-Ok-Some.field-0-is at c.in-Ok-Some.ensures in
    step_bad c.args.word.now c.in-Ok-Some.step read.0 read.1 (λ low high. omega (arith, low, c.if-step-lt1.true))

pub returns-then-step : goal.returns-then-step
returns-then-step c =
    let read = rw c.in-Ok-Some.field-0-is at c.in-Ok-Some.ensures in
    step_bad c.args.word.now c.in-Ok-Some.step read.0 read.1 (λ low high. omega (arith, high, c.if-step.true))
