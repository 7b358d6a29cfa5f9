use Rattle.std.proofs.Common.{None, map, rules}
use Rattle.tau_record.specs.Item.{writes_at}
use Rattle.tau_record.proofs.Loop.{whole, numbers_go_on, writes_done}
use Rattle.tau_record.proofs.item.numbers_of.Goals as goal

pub loop-preserved : goal.loop-preserved
loop-preserved c = record {
  count = search rules;
  reads = rw c.push.ensures.items (numbers_go_on c.loop.numbers.items c.args.count c.loop.counter c.loop.last c.loop.rest.now c.in_ok-number.number c.in_ok-number.after.now (writes_at c.args.count None c.args.bytes.now) c.loop-test.true c.in_ok-number.ensures c.loop.invariant.reads);
}

pub returns : goal.returns
returns c = writes_done (map whole c.loop.numbers.items) c.args.count c.loop.counter c.loop.last c.loop.rest.now (writes_at c.args.count None c.args.bytes.now) c.loop-test.false c.loop.invariant.reads
