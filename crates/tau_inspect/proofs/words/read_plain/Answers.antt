-- What the text's reader of numbers gives.
use Rattle.tau_inspect.proofs.Spellings.{plain_told, plain_minus, plain_none}
use Rattle.tau_inspect.proofs.words.read_plain.Goals as goal

pub returns-then-z-lt0 : goal.returns-then-z-lt0
returns-then-z-lt0 c = plain_minus c.args.word.now c.in-Ok.z c.in-Ok.ensures c.if-z-lt0.true

pub returns-else-z-lt0 : goal.returns-else-z-lt0
returns-else-z-lt0 c = plain_told c.args.word.now c.in-Ok.z c.in-Ok.ensures c.if-z-lt0.false

pub returns-in-Err-Cause : goal.returns-in-Err-Cause
returns-in-Err-Cause c = plain_none c.args.word.now c.in-Err-Cause.field-0-0 (rw c.in-Err-Cause.field-0-is at c.in-Err-Cause.ensures)
