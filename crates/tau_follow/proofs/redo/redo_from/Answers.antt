-- One record more is redone, and all of them.
use Rattle.std.proofs.Common.{arith}
use Rattle.tau_follow.proofs.Spots.{redone_next, all_redone}
use Rattle.tau_follow.proofs.redo.redo_from.Goals as goal

pub loop-i-preserved : goal.loop-i-preserved
loop-i-preserved c = record {
  redone = λ order h low e.
      (let w = c.in_ok-redo_at.ensures.ok in redone_next c.args.procs.now c.args.streams.now c.args.spots.now order c.loop-i.i w.0 _ _ h w.1 (c.loop-i.invariant.redone order h low e) w.2);
  noted = λ db e. c.in_ok-redo_at.ensures.noted db (c.loop-i.invariant.noted db e);
}

pub returns-clause-ok : goal.returns-clause-ok
returns-clause-ok c = λ order h low e. all_redone c.args.procs.now c.args.streams.now c.args.spots.now order c.loop-i.i _ h (omega (arith, c.loop-i-test.false)) (c.loop-i.invariant.redone order h low e)
