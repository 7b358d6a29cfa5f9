-- The queue of the stream is drained.
use Rattle.std.proofs.Common.{arith}
use Rattle.tau_follow.proofs.Queued.{got_at, moved_at, above_passed}
use Rattle.tau_follow.proofs.waits.Waits.pass.Goals as goal

pub returns-in-Ok-clause-found : goal.returns-in-Ok-clause-found
returns-in-Ok-clause-found c = λ streams stages h.
    (let queues = c.args.self.now.queues.items in
    let there = got_at queues c.args.k c.index_mut.result.now (omega (arith, c.if-k-len.false, c.len.ensures)) c.index_mut.ensures.value in
    moved_at streams stages c.args.self.now.looked.items c.drain.new.looked.items queues c.args.k c.index_mut.result.now c.drain.new.queue there c.in-Ok.ensures.moves h)

pub returns-in-Ok-clause-above : goal.returns-in-Ok-clause-above
returns-in-Ok-clause-above c = λ before now all here others. above_passed before now c.args.self.now.queues.items c.args.k c.args.reached c.drain.new.queue all here others c.in-Ok.ensures.above
