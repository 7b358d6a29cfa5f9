use Rattle.std.proofs.Common.{subst}
use Rattle.tau_epoch.specs.Known.{Ascends}
use Rattle.tau_epoch.proofs.Marks.{ascend}
use Rattle.tau_epoch.proofs.Epochs.len.Goals as goal

pub returns-clause-ascends : goal.returns-clause-ascends
returns-clause-ascends c = subst Ascends c.self.view_is (ascend c.self.inside.known.entries c.len.ensures.ordered)
