-- The first seat steps for all hands, and so does the last.
use Rattle.std.proofs.Common.{◌∙◌}
use Rattle.tau_replay.specs.declared.view.TheConstants.{HANDS}
use Rattle.tau_replay.proofs.Crews.{spare_all, spare_length}
use Rattle.tau_replay.proofs.threads.run.Goals as goal

pub crew-seat-requires-clause-spare : goal.crew-seat-requires-clause-spare
crew-seat-requires-clause-spare g c κs within = spare_all c.args.log.now c.in-Ok.seat.me c.in-Ok.ensures.first

pub close-requires-clause-whole : goal.close-requires-clause-whole
close-requires-clause-whole g c = (
  c.crew-seat.ensures.idle.0,
  c.crew-seat.ensures.idle.1 ∙ spare_length 0 HANDS c.in-Ok.seat.me (spare_all c.args.log.now c.in-Ok.seat.me c.in-Ok.ensures.first),
)
