use Rattle.tau_crew.proofs.WorkSteps.{works_then}
use Rattle.tau_crew.proofs.worker.run_call.Goals as goal

pub loop-preserved : goal.loop-preserved
loop-preserved g c = works_then c.args.seat.now c.loop.seat c.act.new.seat c.loop.invariant c.act.ensures.works

pub returns-in_err-act-clause-works : goal.returns-in_err-act-clause-works
returns-in_err-act-clause-works g c = works_then c.args.seat.now c.loop.seat c.act.new.seat c.loop.invariant c.act.ensures.works
