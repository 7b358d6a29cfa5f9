use Rattle.tau_core.specs.declared.event.Event.TheVariants as event
use Rattle.tau_core.specs.Answered.{acked_by}
use Rattle.tau_core.proofs.Loads.{step_load}
use Rattle.tau_core.proofs.Whole.{stood_at}
use Rattle.tau_core_runs.proofs.tests.acked.Goals as goal

pub returns-then-ack-clause-load : goal.returns-then-ack-clause-load
returns-then-ack-clause-load c = step_load c.args.core.now c.ack.new.self (event.Ack c.args.worker) (acked_by c.ack.result c.ack.new.call) c.requires.stood c.ack.ensures

pub returns-then-ack-clause-stood : goal.returns-then-ack-clause-stood
returns-then-ack-clause-stood c = stood_at c.args.core.now c.ack.new.self (event.Ack c.args.worker) (acked_by c.ack.result c.ack.new.call) c.requires.stood c.ack.ensures

pub returns-clause-load : goal.returns-clause-load
returns-clause-load c = step_load c.args.core.now c.ack.new.self (event.Ack c.args.worker) (acked_by c.ack.result c.ack.new.call) c.requires.stood c.ack.ensures

pub returns-clause-stood : goal.returns-clause-stood
returns-clause-stood c = stood_at c.args.core.now c.ack.new.self (event.Ack c.args.worker) (acked_by c.ack.result c.ack.new.call) c.requires.stood c.ack.ensures
