use Rattle.std.proofs.Common.{refl}
use Rattle.tau_core.specs.declared.event.Event.TheVariants as event
use Rattle.tau_core.specs.declared.event.Outcome.TheVariants as outcome
use Rattle.tau_core.specs.Answered.{granted_by}
use Rattle.tau_step.proofs.Standing.{all_stand}
use Rattle.tau_step.proofs.worker.lock.Goals as goal

pub returns-clause-acts : goal.returns-clause-acts
returns-clause-acts c = record { outcome = granted_by c.lock.ensures.value c.lock.result; tells = c.did.ensures (outcome.Granted c.lock.ensures.value) refl; steps = c.lock.ensures.is }

pub returns-clause-load : goal.returns-clause-load
returns-clause-load c = (all_stand c.args.core.now c.lock.new.self c.requires.stood (event.Lock c.args.worker) (granted_by c.lock.ensures.value c.lock.result) c.lock.ensures.is).0

pub returns-clause-stood : goal.returns-clause-stood
returns-clause-stood c = (all_stand c.args.core.now c.lock.new.self c.requires.stood (event.Lock c.args.worker) (granted_by c.lock.ensures.value c.lock.result) c.lock.ensures.is).1
