-- One stream more is looked through.
use Rattle.std.proofs.Common.{arith, inl}
use Rattle.tau_base.proofs.Lists.{got_within}
use Rattle.tau_follow.proofs.Queued.{got_at, stream_looked}
use Rattle.tau_follow.proofs.waits.look_at_all.Goals as goal

pub loop-j-preserved : goal.loop-j-preserved
loop-j-preserved c = λ k i ss s lt a b.
    stream_looked c.args.stages.now c.loop-j.looked.items c.look_from.new.looked.items c.loop-j.j k i c.index-stages-j.result ss s (got_at c.args.stages.now c.loop-j.j c.index-stages-j.result (omega (arith, c.loop-j-test.true)) c.index-stages-j.is)
    c.in-Ok.ensures.kept (λ l low high. c.in-Ok.ensures.added l low (omega (arith, high, c.len.ensures))) (λ before. c.loop-j.invariant k i ss s before a b) lt a b

pub returns : goal.returns
returns c = λ streams queues j i ss s a b o. inl (c.loop-j.invariant j i ss s (let lt = got_within c.args.stages.now j ss a in omega (arith, lt, c.loop-j-test.false)) a b)
