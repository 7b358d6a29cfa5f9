-- Each is one.
use Rattle.std.proofs.Common.{arith}
use Rattle.tau_base.proofs.Lists.{got_within}
use Rattle.tau_follow.proofs.feed.are_calls.Goals as goal

pub returns : goal.returns
returns c = λ yes k p le e. c.loop-i.invariant k p le (let lt = got_within c.args.records.now k p e in let end = c.loop-i-test.false in omega (arith, lt, end)) e
