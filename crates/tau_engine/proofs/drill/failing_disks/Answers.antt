use Rattle.tau_engine.specs.Drill.{FailsOnce}
use Rattle.tau_engine.proofs.Drilled.{one_new, one_longer}
use Rattle.tau_engine.proofs.drill.failing_disks.Goals as goal

pub loop-j-preserved : goal.loop-j-preserved
loop-j-preserved c = record {
  count = one_longer c.loop-j.disks.items c.push.new.self.items c.in_ok-disk.disk c.loop-j.j c.loop-j.invariant.count c.in_ok-push.ensures.items;
  new = one_new (FailsOnce c.args.stream c.args.call) c.loop-j.disks.items c.push.new.self.items c.in_ok-disk.disk c.loop-j.j c.loop-j.invariant.count c.in_ok-push.ensures.items c.loop-j.invariant.new c.in_ok-disk.ensures.new c.in_ok-disk.ensures.plan;
}
