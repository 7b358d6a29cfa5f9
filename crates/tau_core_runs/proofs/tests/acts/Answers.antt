use Rattle.tau_core.proofs.Loads.{step_load}
use Rattle.tau_core.proofs.Whole.{stood_at}
use Rattle.tau_core_runs.proofs.tests.acts.Goals as goal

pub returns-clause-load : goal.returns-clause-load
returns-clause-load c = step_load c.args.core.now c.step-outcome.new.self c.args.event c.step-outcome.result c.requires.stood c.step-outcome.ensures

pub returns-clause-stood : goal.returns-clause-stood
returns-clause-stood c = stood_at c.args.core.now c.step-outcome.new.self c.args.event c.step-outcome.result c.requires.stood c.step-outcome.ensures
