-- One seat is the first hand's, the other is that of the rest.
use Rattle.tau_replay.proofs.Crews.{spare_first, spare_left, spare_idle}
use Rattle.tau_replay.proofs.threads.split_one.Goals as goal

pub split-requires-clause-idle : goal.split-requires-clause-idle
split-requires-clause-idle c = spare_idle c.args.first c.args.many c.args.seat.now.me c.requires.spare

pub returns-clause-first : goal.returns-clause-first
returns-clause-first c = spare_first c.args.first c.args.many c.args.seat.now.me c.split.result.me c.requires.more.0 c.requires.spare c.split.ensures.views.1

pub returns-clause-left : goal.returns-clause-left
returns-clause-left c = spare_left c.args.first c.args.many c.args.seat.now.me c.split.new.seat.me c.requires.more.0 c.requires.spare c.split.ensures.views.0
