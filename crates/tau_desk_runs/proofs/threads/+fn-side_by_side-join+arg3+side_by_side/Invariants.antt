-- Each seat that is split off leaves one fewer.
use Rattle.std.proofs.Common.{◌*◌, ◌-◌}
use Rattle.tau_desk_runs.proofs.threads.+fn-side_by_side-join+arg3+side_by_side.Given as goal

abbrev pub decreases-side_by_side : goal.decreases-side_by_side
decreases-side_by_side g l = 2 * l.others

abbrev pub decreases-join+arg3 : goal.decreases-join+arg3
decreases-join+arg3 g l = 2 * l.others - 1
