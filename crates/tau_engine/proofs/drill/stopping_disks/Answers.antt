use Rattle.std.proofs.Common.{◌≤◌, ◌<◌, ◌+◌, ◌-◌, rules, arith}
use Rattle.tau_engine.specs.Drill.{StopsAt}
use Rattle.tau_engine.proofs.Drilled.{one_new, one_longer, stops_at, taken_few}
use Rattle.tau_engine.proofs.drill.stopping_disks.Goals as goal

pub overflow_add-from : goal.overflow_add-from
overflow_add-from c =
    let few : c.calls_among-from.result ≤ c.args.after - 1 = taken_few c.args.order.now c.first_calls-first.result.now (c.args.after - 1) c.calls_among-from.result c.first_calls-first.ensures c.calls_among-from.ensures.low in
    let high = c.requires.high in
    let small : 1 + c.calls_among-from.result < 4294967296 = omega (arith, few, high) in
    search rules

pub loop-stream-preserved : goal.loop-stream-preserved
loop-stream-preserved c = record {
  count = one_longer c.loop-stream.disks.items c.push.new.self.items c.in_ok-disk.disk c.loop-stream.stream c.loop-stream.invariant.count c.in_ok-push.ensures.items;
  new = one_new (StopsAt c.args.order.now c.args.after) c.loop-stream.disks.items c.push.new.self.items c.in_ok-disk.disk c.loop-stream.stream c.loop-stream.invariant.count c.in_ok-push.ensures.items c.loop-stream.invariant.new
      (record { empty = c.in_ok-disk.ensures.synced; unused = c.in_ok-disk.ensures.count; has_room = c.in_ok-disk.ensures.short })
      (stops_at c.args.order.now c.args.after c.loop-stream.stream c.in_ok-disk.disk c.first_calls-first.result.now c.calls_among-from.result c.is_call_of.result c.first_calls-first.ensures c.calls_among-from.ensures.count c.is_call_of.ensures
      c.in_ok-disk.ensures.plan c.in_ok-disk.ensures.last);
}
