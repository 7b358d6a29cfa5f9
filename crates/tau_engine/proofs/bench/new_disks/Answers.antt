use Rattle.tau_engine.proofs.Drilled.{one_new, one_longer}
use Rattle.tau_engine.proofs.bench.new_disks.Goals as goal

pub loop-j-preserved : goal.loop-j-preserved
loop-j-preserved c = record {
  count = one_longer c.loop-j.disks.items c.push.new.self.items c.in_ok-disk.disk c.loop-j._j c.loop-j.invariant.count c.in_ok-push.ensures.items;
  new = one_new (λ j d. Unit {0}) c.loop-j.disks.items c.push.new.self.items c.in_ok-disk.disk c.loop-j._j c.loop-j.invariant.count c.in_ok-push.ensures.items c.loop-j.invariant.new
      (record { empty = c.in_ok-disk.ensures.synced; unused = c.in_ok-disk.ensures.count; has_room = c.in_ok-disk.ensures.short }) tt;
}
