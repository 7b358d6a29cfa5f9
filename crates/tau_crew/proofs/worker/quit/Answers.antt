use Rattle.tau_crew.proofs.WorkSteps.{works_quit}
use Rattle.tau_crew.proofs.worker.quit.Goals as goal

pub returns : goal.returns
returns g c = works_quit c.args.desk.now.table.shared.key.value c.args.seat.now c.quit-acted.new.self c.agrees.ensures c.requires.opened c.quit-acted.ensures.seat c.quit-acted.result c.quit-acted.ensures.step
