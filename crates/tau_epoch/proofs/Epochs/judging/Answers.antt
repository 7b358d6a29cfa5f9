use Rattle.std.proofs.Common.{◌∙◌}
use Rattle.tau_epoch.specs.Epochs.{least_above}
use Rattle.tau_epoch.proofs.Marks.{judged_some, judged_none}
use Rattle.tau_epoch.proofs.Epochs.judging.Goals as goal

pub returns-in-Some : goal.returns-in-Some
returns-in-Some c = c.meet_of.ensures ∙ judged_some c.args.elv.now c.in-Some.lv.now (least_above c.args.number c.args.self.now) c.in-Some.ensures

pub returns-in-None : goal.returns-in-None
returns-in-None c = judged_none c.args.elv.now (least_above c.args.number c.args.self.now) c.in-None.ensures
