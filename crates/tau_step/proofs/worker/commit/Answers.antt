use Rattle.std.proofs.Common.{refl}
use Rattle.std.specs.Prelude.{◌%◌, slice_index}
use Rattle.tau_core.specs.declared.event.Event.TheVariants as event
use Rattle.tau_core.specs.declared.event.Outcome.TheVariants as outcome
use Rattle.tau_core.specs.Answered.{placed_by}
use Rattle.tau_step.proofs.Standing.{all_stand}
use Rattle.tau_step.proofs.worker.commit.Goals as goal

pub returns-clause-acts : goal.returns-clause-acts
returns-clause-acts c = record { outcome = placed_by (slice_index c.args.core.now.ends (c.args.worker % c.args.core.now.load.streams)) c.commit.result; tells = c.did.ensures (outcome.Placed (slice_index c.args.core.now.ends (c.args.worker % c.args.core.now.load.streams))) refl; steps = c.commit.ensures }

pub returns-clause-load : goal.returns-clause-load
returns-clause-load c = (all_stand c.args.core.now c.commit.new.self c.requires.stood (event.Commit c.args.worker) (placed_by (slice_index c.args.core.now.ends (c.args.worker % c.args.core.now.load.streams)) c.commit.result) c.commit.ensures).0

pub returns-clause-stood : goal.returns-clause-stood
returns-clause-stood c = (all_stand c.args.core.now c.commit.new.self c.requires.stood (event.Commit c.args.worker) (placed_by (slice_index c.args.core.now.ends (c.args.worker % c.args.core.now.load.streams)) c.commit.result) c.commit.ensures).1
