-- What the text's reader of numbers gives.
use Rattle.tau_inspect.proofs.Spellings.{whole_told, whole_none}
use Rattle.tau_inspect.proofs.words.read_whole.Goals as goal

pub returns-in-Ok : goal.returns-in-Ok
returns-in-Ok c = whole_told c.args.word.now c.in-Ok.z c.in-Ok.ensures

pub returns-in-Err-Cause : goal.returns-in-Err-Cause
returns-in-Err-Cause c = whole_none c.args.word.now c.in-Err-Cause.field-0-0 (rw c.in-Err-Cause.field-0-is at c.in-Err-Cause.ensures)
