use Rattle.tau_crew.proofs.Gathering.{gathers_none, gathers_worker}
use Rattle.tau_crew.proofs.gather.gather_worker.Goals as goal

pub returns-then-stream_of-stream : goal.returns-then-stream_of-stream
returns-then-stream_of-stream g c = gathers_none c.args.seat.now c.args.body.now.items

pub returns : goal.returns
returns g c = gathers_worker c.args.desk.now.table.shared.key.value c.args.seat.now c.gather.new.self c.args.worker c.args.body.now.items c.gather.new.body.items c.gather.result c.gather.ensures.gathers c.gather.ensures.same
