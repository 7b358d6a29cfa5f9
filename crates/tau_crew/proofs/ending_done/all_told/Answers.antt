use Rattle.tau_crew.proofs.EndLeft.{told_more}
use Rattle.tau_crew.proofs.ending_done.all_told.Goals as goal

pub loop-worker-preserved : goal.loop-worker-preserved
loop-worker-preserved c = told_more c.args.desk.now.load.workers c.args.positions.now c.args.head.now c.args.clerk.now.told.acks c.loop-worker.worker c.loop-worker.invariant (c.is_told.ensures c.if-not-is_told.false)
