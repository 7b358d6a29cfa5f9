-- A number that is no position.
use Rattle.tau_inspect.proofs.Cutting.{position_bad}
use Rattle.tau_inspect.proofs.parts.read_position.Goals as goal

pub returns-then-position-ge-MAX_LSN : goal.returns-then-position-ge-MAX_LSN
returns-then-position-ge-MAX_LSN c =
    let read = rw c.in-Ok-Some.field-0-is at c.in-Ok-Some.ensures in
    position_bad c.args.word.now c.in-Ok-Some.position read.0 read.1 c.if-position-ge-MAX_LSN.true
