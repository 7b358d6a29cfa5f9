use Rattle.tau_crew.proofs.WorkSteps.{works_looked, works_looked_then, works_then}
use Rattle.tau_crew.proofs.worker.run_calls.Goals as goal

pub loop-preserved : goal.loop-preserved
loop-preserved g c = record {
  works = works_looked_then c.args.seat.now c.loop.seat c.stopped.new.self c.run_next.new.seat c.stopped.ensures.knows.0 c.loop.invariant.works c.stopped.ensures.knows.2 c.run_next.ensures.works;
  hand = c.in_ok-run_next.ensures.rests;
}

pub returns-then-not-branch-clause-works : goal.returns-then-not-branch-clause-works
returns-then-not-branch-clause-works g c = works_looked_then c.args.seat.now c.loop.seat c.stopped.new.self c.run_next.new.seat c.stopped.ensures.knows.0 c.loop.invariant.works c.stopped.ensures.knows.2 c.run_next.ensures.works

pub returns-in_err-run_next-clause-works : goal.returns-in_err-run_next-clause-works
returns-in_err-run_next-clause-works g c = works_looked_then c.args.seat.now c.loop.seat c.stopped.new.self c.run_next.new.seat c.stopped.ensures.knows.0 c.loop.invariant.works c.stopped.ensures.knows.2 c.run_next.ensures.works

pub returns-then-stopped-clause-works : goal.returns-then-stopped-clause-works
returns-then-stopped-clause-works g c = works_then c.args.seat.now c.loop.seat c.stopped.new.self c.loop.invariant.works
    (works_looked c.loop.seat c.stopped.new.self c.stopped.ensures.knows.0 c.stopped.ensures.knows.2)
