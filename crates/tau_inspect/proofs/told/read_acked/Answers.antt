-- What stands there is no reply.
use Rattle.tau_inspect.proofs.ReadLines.{acked_bad}
use Rattle.tau_inspect.proofs.told.read_acked.Goals as goal

pub returns-in-Ok-None : goal.returns-in-Ok-None
returns-in-Ok-None c = acked_bad c.args.number c.args.rest.now c.in-Some.text.now c.in-Some.ensures (rw c.in-Ok-None.field-0-is at c.in-Ok-None.ensures)
