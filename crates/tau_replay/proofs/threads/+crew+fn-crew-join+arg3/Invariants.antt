-- Each seat that is split off leaves one worker fewer.
use Rattle.std.proofs.Common.{◌*◌, ◌-◌}
use Rattle.tau_replay.proofs.threads.+crew+fn-crew-join+arg3.Given as goal

abbrev pub decreases-crew : goal.decreases-crew
decreases-crew g l = 2 * l.others

abbrev pub decreases-join+arg3 : goal.decreases-join+arg3
decreases-join+arg3 g l = 2 * l.others - 1
