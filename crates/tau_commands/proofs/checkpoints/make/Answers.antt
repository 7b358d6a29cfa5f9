use Rattle.std.proofs.Common.{sym, ◌∙◌}
use Rattle.tau_commands.proofs.checkpoints.make.Goals as goal

pub returns-in-Ok-clause-ready : goal.returns-in-Ok-clause-ready
returns-in-Ok-clause-ready g c = c.make_next-ready.ensures.ready c.args.found.slots (sym c.next_write-next.ensures.exact ∙ c.in-Ok.is)

pub returns-in-Ok-clause-refused : goal.returns-in-Ok-clause-refused
returns-in-Ok-clause-refused g c = c.make_next-ready.ensures.refused c.args.found.slots (sym c.next_write-next.ensures.exact ∙ c.in-Ok.is)
