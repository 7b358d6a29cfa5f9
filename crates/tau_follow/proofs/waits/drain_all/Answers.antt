-- One queue more is drained.
use Rattle.std.proofs.Common.{ℕ, arith, subst, ◌∙◌}
use Rattle.tau_follow.specs.Queue.{AreAbove}
use Rattle.tau_base.proofs.Lists.{got_within}
use Rattle.tau_follow.proofs.Queued.{got_at, moved_at, above_next, set_many}
use Rattle.tau_follow.proofs.waits.drain_all.Goals as goal

pub loop-k-preserved : goal.loop-k-preserved
loop-k-preserved c =
    let many = c.loop-k.invariant.many in
    let there = got_at c.loop-k.queues.items c.loop-k.k c.index_mut.result.now (omega (arith, many, c.loop-k-test.true, c.len-k-end.ensures)) c.index_mut.ensures.value in
    record {
      many = set_many c.loop-k.queues.items c.loop-k.k c.drain.new.queue ∙ many;
      found = λ streams stages h. moved_at streams stages c.loop-k.looked.items c.drain.new.looked.items c.loop-k.queues.items c.loop-k.k c.index_mut.result.now c.drain.new.queue there c.in-Ok.ensures.moves (c.loop-k.invariant.found streams stages h);
      above = above_next c.args.reached.now c.loop-k.queues.items c.loop-k.k c.drain.new.queue c.loop-k.invariant.above (subst (λ (n : ℕ). AreAbove n c.drain.new.queue) c.position.ensures c.in-Ok.ensures.above);
    }

pub returns-clause-above : goal.returns-clause-above
returns-clause-above c = λ k queue there.
    c.loop-k.invariant.above k queue (let lt = got_within c.loop-k.queues.items k queue there in let many = c.loop-k.invariant.many in omega (arith, lt, many, c.loop-k-test.false, c.len-k-end.ensures)) there
