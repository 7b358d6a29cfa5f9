use Rattle.tau_crew.proofs.Gathering.{gathers_anchors, gathers_none}
use Rattle.tau_crew.proofs.gather.gather_anchors.Goals as goal

pub returns : goal.returns
returns g c = gathers_anchors c.args.seat.now c.gather_own.new.self c.args.body.now.items c.gather_own.new.body.items c.gather_own.result c.agrees.ensures c.gather_own.ensures.gathers c.gather_own.ensures.same

pub returns-then-not-has_own : goal.returns-then-not-has_own
returns-then-not-has_own g c = gathers_none c.args.seat.now c.args.body.now.items
