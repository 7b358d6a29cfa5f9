-- The record is put in the queue.
use Rattle.std.proofs.Common.{refl, arith}
use Rattle.tau_follow.proofs.Queued.{got_at, above_set}
use Rattle.tau_follow.proofs.waits.queue_at.Goals as goal

pub returns-in-Ok-clause-queued : goal.returns-in-Ok-clause-queued
returns-in-Ok-clause-queued c = record {
  queue = c.index_mut.result.now;
  longer = c.push.new.self;
  there = got_at c.args.queues.now.items c.args.k c.index_mut.result.now (omega (arith, c.if-k-len.false, c.len.ensures)) c.index_mut.ensures.value;
  now_is = refl;
  kept = c.in-Ok.ensures.kept;
  added = c.in-Ok.ensures.added;
}

pub returns-in-Ok-clause-above : goal.returns-in-Ok-clause-above
returns-in-Ok-clause-above c = λ reached all lt.
    (let there = got_at c.args.queues.now.items c.args.k c.index_mut.result.now (omega (arith, c.if-k-len.false, c.len.ensures)) c.index_mut.ensures.value in
    above_set reached c.args.queues.now.items c.args.k c.push.new.self (c.in-Ok.ensures.above _ (all c.args.k c.index_mut.result.now there) lt) all)
