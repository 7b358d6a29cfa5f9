-- One seat has the hands of both.
use Rattle.tau_replay.proofs.Crews.{spare_more, spare_idle}
use Rattle.tau_replay.proofs.threads.put_one.Goals as goal

pub join-requires-clause-idle : goal.join-requires-clause-idle
join-requires-clause-idle c = (spare_idle c.args.first c.args.many c.args.seat.now.me c.requires.spare.0, spare_idle _ 1 c.args.next.me c.requires.spare.1)

pub returns-clause-more : goal.returns-clause-more
returns-clause-more c = spare_more c.args.first c.args.many c.args.seat.now.me c.args.next.me c.join.new.seat.me c.requires.spare.0 c.requires.spare.1 c.join.ensures.views
