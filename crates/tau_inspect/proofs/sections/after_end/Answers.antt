-- No end, or what comes after it.
use Rattle.std.proofs.Common.{◌<◌, ◌^◌, rules}
use Rattle.tau_inspect.proofs.ReadSections.{end_starts}
use Rattle.tau_inspect.proofs.sections.after_end.Goals as goal

pub returns-in-None-2 : goal.returns-in-None-2
returns-in-None-2 c =
    let none = rw c.in-None-2.is at c.in_ok-read_end-in-Some.ensures in
    let small : c.args.streams < 2 ^ 8 = search rules in
    λ failed tail fits is. none failed fits (end_starts c.args.streams c.args.text.now c.in-Some.line.now c.in-Some.rest.now small c.in-Some.ensures failed fits tail is)
