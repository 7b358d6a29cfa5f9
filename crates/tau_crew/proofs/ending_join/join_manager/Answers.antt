use Rattle.tau_crew.proofs.EndJoins.{manager_joined}
use Rattle.tau_crew.proofs.ending_join.join_manager.Goals as goal

pub returns-clause-takes : goal.returns-clause-takes
returns-clause-takes g c = manager_joined _ c.args.head.now c.join_manager.new.head c.args.job.seat c.agrees.ensures c.agrees-2.ensures c.requires.opened.0 c.requires.opened.1 c.join_manager.ensures.joined
