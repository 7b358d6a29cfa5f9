use Rattle.tau_crew.proofs.Gathering.{gathers_on}
use Rattle.tau_crew.proofs.gather.gather_round.Goals as goal

pub returns : goal.returns
returns g c = gathers_on c.args.seat.now c.gather_workers.new.seat c.gather_anchors.new.seat c.args.body.now.items c.gather_workers.new.body.items c.gather_anchors.new.body.items c.gather_workers.ensures c.gather_anchors.ensures
