-- Each seat that is split off leaves one fewer.
use Rattle.std.proofs.Common.{◌*◌, ◌-◌}
use Rattle.tau_crew.proofs.work_all.+fn-work_all-join+arg3+work_all.Given as goal

abbrev pub decreases-work_all : goal.decreases-work_all
decreases-work_all g l = 2 * l.others

abbrev pub decreases-join+arg3 : goal.decreases-join+arg3
decreases-join+arg3 g l = 2 * l.others - 1
