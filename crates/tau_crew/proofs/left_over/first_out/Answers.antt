use Rattle.std.proofs.Common.{arith}
use Rattle.tau_crew.proofs.LeftOver.{first_is_out, one_there}
use Rattle.tau_crew.proofs.left_over.first_out.Goals as goal

pub returns-then-not-has_worker : goal.returns-then-not-has_worker
returns-then-not-has_worker c = λ w q. first_is_out c.args.head.now c.loop-worker.worker w q c.loop-worker.invariant (c.has_worker.ensures.out c.if-not-has_worker.true)

pub loop-worker-preserved : goal.loop-worker-preserved
loop-worker-preserved c = one_there c.args.head.now c.loop-worker.worker c.loop-worker.invariant (c.has_worker.ensures.there c.if-not-has_worker.false)

pub unreachable-requires : goal.unreachable-requires
unreachable-requires c =
    let x = c.requires.out in
    let low = x.1 in
    let past = c.loop-worker-test.false in
    let o = c.loop-worker.invariant x.0 (omega (arith, low, past)) in
    x.2.out o.0 o.1
