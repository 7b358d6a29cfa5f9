use Rattle.tau_crew.proofs.WorkSees.{works_seen}
use Rattle.tau_crew.proofs.worker.may_be_newer.Goals as goal

pub returns-clause-works : goal.returns-clause-works
returns-clause-works c = works_seen c.args.seat.now c.persisted-upto.new.self c.args.stream c.persisted-upto.result c.persisted-upto.ensures.knows
