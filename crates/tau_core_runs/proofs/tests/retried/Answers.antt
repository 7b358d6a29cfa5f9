use Rattle.tau_core_runs.proofs.Runs.{retried_load, retried_stood}
use Rattle.tau_core_runs.proofs.tests.retried.Goals as goal

pub returns-clause-load : goal.returns-clause-load
returns-clause-load c = let g = c.requires.stood in retried_load c.args.core.now c.retry-outcome.new.self g 0 c.retry-outcome.result (c.retry-outcome.ensures g.0 g.1 g.2)

pub returns-clause-stood : goal.returns-clause-stood
returns-clause-stood c = let g = c.requires.stood in retried_stood c.args.core.now c.retry-outcome.new.self g 0 c.retry-outcome.result (c.retry-outcome.ensures g.0 g.1 g.2)
