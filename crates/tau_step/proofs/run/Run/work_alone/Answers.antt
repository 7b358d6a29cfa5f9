use Rattle.std.proofs.Common.{refl, ◌∙◌}
use Rattle.tau_core.specs.Opens.{nothing}
use Rattle.tau_step.proofs.Fitting.{lowest_raised}
use Rattle.tau_step.proofs.Running.{work_works, work_fewer}
use Rattle.tau_step.proofs.run.Run.work_alone.Goals as goal

pub worker_turn-requires-clause-stood : goal.worker_turn-requires-clause-stood
worker_turn-requires-clause-stood c = c.requires.stood

pub worker_turn-requires-clause-there : goal.worker_turn-requires-clause-there
worker_turn-requires-clause-there c = c.requires.there

pub worker_turn-requires-clause-stop : goal.worker_turn-requires-clause-stop
worker_turn-requires-clause-stop c = λ h. c.is_some.ensures ∙ lowest_raised c.args.self.now.core nothing h c.args.self.now.failed c.requires.lowest

pub returns-clause-works : goal.returns-clause-works
returns-clause-works c = work_works c.args.self.now _ refl refl refl refl refl c.requires.stood c.args.worker c.worker_turn.result c.worker_turn.ensures.turned

pub returns-clause-fewer : goal.returns-clause-fewer
returns-clause-fewer c = work_fewer c.args.worker c.args.self.now.core c.worker_turn.new.core c.worker_turn.result c.requires.there c.requires.stood c.worker_turn.ensures.turned

pub returns-clause-alone : goal.returns-clause-alone
returns-clause-alone c = c.worker_turn.ensures.alone
