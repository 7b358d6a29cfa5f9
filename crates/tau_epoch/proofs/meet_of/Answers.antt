use Rattle.std.proofs.Common.{◌∙◌}
use Rattle.tau_epoch.proofs.Meets.{meet_comm}
use Rattle.tau_epoch.proofs.meet_of.Goals as goal

pub returns-else-width : goal.returns-else-width
returns-else-width c = c.lowered-else-width.ensures ∙ meet_comm c.args.other.now c.args.one.now
