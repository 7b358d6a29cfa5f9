use Rattle.tau_crew.proofs.WorkSteps.{works_posted}
use Rattle.tau_crew.proofs.worker.post.Goals as goal

pub returns : goal.returns
returns g c = works_posted c.args.desk.now.table.shared.key.value c.args.seat.now c.post.new.self c.agrees.ensures c.requires.opened c.post.ensures.seat c.post.ensures.step
