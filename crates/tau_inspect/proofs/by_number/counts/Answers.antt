-- One number more is counted.
use Rattle.std.proofs.Common.{◌<◌, ◌^◌, length, take, length-take-le, arith, rules}
use Rattle.tau_inspect.proofs.Numbering.{counts_more, counts_small}
use Rattle.tau_inspect.proofs.by_number.counts.Goals as goal

pub count_one-requires : goal.count_one-requires
count_one-requires c = λ lt.
    let long : length c.args.numbers.now < 2 ^ 64 = search rules in
    let front = length-take-le c.loop-i.i c.args.numbers.now (omega (arith, c.loop-i-test.true)) in
    counts_small c.args.count _ (take c.loop-i.i c.args.numbers.now) c.loop-i.counts.items c.loop-i.invariant lt (omega (arith, long, front, c.loop-i-test.true))

pub loop-i-preserved : goal.loop-i-preserved
loop-i-preserved c = counts_more c.args.count c.args.numbers.now c.loop-i.i c.loop-i.counts.items c.count_one.new.counts.items c.loop-i-test.true c.loop-i.invariant c.count_one.ensures
