use Rattle.tau_run.proofs.StepsLed.{turns_law}
use Rattle.tau_run.proofs.schedule.turns_are_a_run.Goals as goal

pub returns : goal.returns
returns c = turns_law
