-- One seat has the workers of both.
use Rattle.tau_replay.proofs.Crews.{joined_idle}
use Rattle.tau_replay.proofs.threads.join_seats.Goals as goal

pub returns-clause-idle : goal.returns-clause-idle
returns-clause-idle c = (joined_idle c.args.seat.now.me c.args.other.me c.join.new.seat.me c.requires.idle.0 c.join.ensures.views).0

pub returns-clause-workers : goal.returns-clause-workers
returns-clause-workers c = (joined_idle c.args.seat.now.me c.args.other.me c.join.new.seat.me c.requires.idle.0 c.join.ensures.views).1
