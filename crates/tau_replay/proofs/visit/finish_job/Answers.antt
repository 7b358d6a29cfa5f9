-- The hand is empty then.
use Rattle.std.specs.Prelude.{Some, None}
use Rattle.tau_replay.proofs.Visits.{rest_set, rest_same, set_here}
use Rattle.tau_replay.proofs.visit.finish_job.Goals as goal

pub returns-in-Ok-clause-rest : goal.returns-in-Ok-clause-rest
returns-in-Ok-clause-rest c = rest_set c.args.hand c.args.part.now.replay.hands.items c.finish_at.new.replay.hands.items None c.in-Ok.ensures.hand

pub returns-in-Ok-clause-idle : goal.returns-in-Ok-clause-idle
returns-in-Ok-clause-idle c = λ is. set_here c.args.hand c.args.part.now.replay.hands.items c.finish_at.new.replay.hands.items (Some c.args.outcome.now.job) None c.requires.busy c.in-Ok.ensures.hand

pub returns-in-Err-clause-rest : goal.returns-in-Err-clause-rest
returns-in-Err-clause-rest c = rest_same c.args.hand 1 c.args.part.now.replay.hands.items c.finish_at.new.replay.hands.items c.in-Err.ensures.err
