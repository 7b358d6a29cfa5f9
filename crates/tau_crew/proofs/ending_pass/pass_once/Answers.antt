use Rattle.tau_crew.proofs.ending_pass.pass_once.Goals as goal

pub returns : goal.returns
returns g c = record { managers = c.flush_left.ensures.managers; clerk = c.tell_left.ensures.clerk; heard = c.tell_left.ensures.heard; cause = c.tell_left.ensures.cause; faults_up = c.tell_left.ensures.faults }
