-- The number of no call.
use Rattle.std.proofs.Common.{arith, rules, ◌<◌, ◌^◌}
use Rattle.tau_inspect.proofs.ReadLines.{call_bad}
use Rattle.tau_inspect.proofs.told.read_call.Goals as goal

pub returns-then-number-lt1 : goal.returns-then-number-lt1
returns-then-number-lt1 c =
    let read = rw c.in-Ok-Some.field-0-is at c.in-Ok-Some.ensures in
    let small : c.args.calls < 2 ^ 32 = search rules in
    call_bad c.args.calls c.in-Ok-Some.number c.args.word.now small read.0 read.1 (λ low high. omega (arith, low, c.if-number-lt1.true))

pub returns-then-number-from : goal.returns-then-number-from
returns-then-number-from c =
    let read = rw c.in-Ok-Some.field-0-is at c.in-Ok-Some.ensures in
    let small : c.args.calls < 2 ^ 32 = search rules in
    call_bad c.args.calls c.in-Ok-Some.number c.args.word.now small read.0 read.1 (λ low high. omega (arith, high, c.if-number-from.true, c.from.ensures))
