use Rattle.std.proofs.Common.{refl}
use Rattle.tau_core.specs.declared.event.Event.TheVariants as event
use Rattle.tau_core.specs.declared.event.Outcome.TheVariants as outcome
use Rattle.tau_core.specs.Answered.{went_by}
use Rattle.tau_step.proofs.Standing.{all_stand}
use Rattle.tau_step.proofs.worker.free.Goals as goal

pub returns-clause-acts : goal.returns-clause-acts
returns-clause-acts c = record { outcome = went_by c.free.result; tells = c.did.ensures outcome.Went refl; steps = c.free.ensures }

pub returns-clause-load : goal.returns-clause-load
returns-clause-load c = (all_stand c.args.core.now c.free.new.self c.requires.stood (event.Free c.args.worker) (went_by c.free.result) c.free.ensures).0

pub returns-clause-stood : goal.returns-clause-stood
returns-clause-stood c = (all_stand c.args.core.now c.free.new.self c.requires.stood (event.Free c.args.worker) (went_by c.free.result) c.free.ensures).1
