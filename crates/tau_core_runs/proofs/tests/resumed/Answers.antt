use Rattle.tau_core_runs.proofs.Runs.{resumed_load, resumed_stood}
use Rattle.tau_core_runs.proofs.tests.resumed.Goals as goal

pub returns-clause-load : goal.returns-clause-load
returns-clause-load c = let g = c.requires in resumed_load c.args.core.now c.resume.new.self g c.resume.result (c.resume.ensures g.0 g.1 g.2)

pub returns-clause-stood : goal.returns-clause-stood
returns-clause-stood c = let g = c.requires in resumed_stood c.args.core.now c.resume.new.self g c.resume.result (c.resume.ensures g.0 g.1 g.2)
