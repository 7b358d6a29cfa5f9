use Rattle.std.proofs.Common.{refl}
use Rattle.tau_core.specs.declared.event.Event.TheVariants as event
use Rattle.tau_core.specs.declared.event.Outcome.TheVariants as outcome
use Rattle.tau_core.specs.Answered.{went_by}
use Rattle.tau_step.proofs.Standing.{all_stand}
use Rattle.tau_step.proofs.worker.done.Goals as goal

pub returns-clause-acts : goal.returns-clause-acts
returns-clause-acts c = record { outcome = went_by c.done.result; tells = c.did.ensures outcome.Went refl; steps = c.done.ensures }

pub returns-clause-load : goal.returns-clause-load
returns-clause-load c = (all_stand c.args.core.now c.done.new.self c.requires.stood (event.Done c.args.worker) (went_by c.done.result) c.done.ensures).0

pub returns-clause-stood : goal.returns-clause-stood
returns-clause-stood c = (all_stand c.args.core.now c.done.new.self c.requires.stood (event.Done c.args.worker) (went_by c.done.result) c.done.ensures).1
