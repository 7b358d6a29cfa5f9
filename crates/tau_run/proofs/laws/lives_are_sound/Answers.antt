use Rattle.tau_run.proofs.Lives.{lives_sound, lives_recovered, runs_go_on, lives_one}
use Rattle.tau_run.proofs.laws.lives_are_sound.Goals as goal

pub returns-clause-sound : goal.returns-clause-sound
returns-clause-sound c = lives_sound

pub returns-clause-each : goal.returns-clause-each
returns-clause-each c = lives_recovered

pub returns-clause-next : goal.returns-clause-next
returns-clause-next c = runs_go_on

pub returns-clause-one : goal.returns-clause-one
returns-clause-one c = lives_one
