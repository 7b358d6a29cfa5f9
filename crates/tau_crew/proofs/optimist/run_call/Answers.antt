use Rattle.tau_crew.proofs.WorkSteps.{works_then}
use Rattle.tau_crew.proofs.optimist.run_call.Goals as goal

pub loop-preserved : goal.loop-preserved
loop-preserved g c = works_then c.args.seat.now c.loop.seat c.act_peeking.new.seat c.loop.invariant c.act_peeking.ensures.works

pub returns-in_err-act_peeking-clause-works : goal.returns-in_err-act_peeking-clause-works
returns-in_err-act_peeking-clause-works g c = works_then c.args.seat.now c.loop.seat c.act_peeking.new.seat c.loop.invariant c.act_peeking.ensures.works
