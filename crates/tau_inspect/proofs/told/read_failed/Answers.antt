-- The number of no stream.
use Rattle.std.proofs.Common.{arith, rules, ◌<◌, ◌^◌}
use Rattle.tau_inspect.proofs.ReadLines.{end_bad}
use Rattle.tau_inspect.proofs.told.read_failed.Goals as goal

pub returns-then-stream-from : goal.returns-then-stream-from
returns-then-stream-from c =
    let read = rw c.in-Ok-Some.field-0-is at c.in-Ok-Some.ensures in
    let small : c.args.streams < 2 ^ 8 = search rules in
    end_bad c.args.streams c.in-Ok-Some.stream c.args.word.now small read.0 read.1 (omega (arith, c.if-stream-from.true, c.from.ensures))
