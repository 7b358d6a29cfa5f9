use Rattle.tau_crew.proofs.WorkSteps.{works_then}
use Rattle.tau_crew.proofs.optimist.run_next.Goals as goal

pub returns-clause-works : goal.returns-clause-works
returns-clause-works g c = works_then c.args.seat.now c.begin_next.new.seat c.run_call.new.seat c.begin_next.ensures.works c.run_call.ensures.works

pub returns-in_err-run_call-clause-works : goal.returns-in_err-run_call-clause-works
returns-in_err-run_call-clause-works g c = works_then c.args.seat.now c.begin_next.new.seat c.run_call.new.seat c.begin_next.ensures.works c.run_call.ensures.works
