use Rattle.tau_record.specs.Item.{write, FitsWrite}
use Rattle.tau_record.proofs.Loop.{flat_more, all_more}
use Rattle.tau_record.proofs.item.put_writes.Goals as goal

pub loop-w-preserved : goal.loop-w-preserved
loop-w-preserved c = record {
  bytes = flat_more write c.args.writes.now c.loop-w.w-index c.w-item.result c.args.out.now.items c.loop-w.out.items c.put_write.new.out.items c.loop-w-test.true c.w-item.is c.loop-w.invariant.bytes c.in_ok-put_write.ensures.bytes;
  fit = all_more FitsWrite c.args.writes.now c.loop-w.w-index c.w-item.result c.loop-w-test.true c.w-item.is c.loop-w.invariant.fit c.in_ok-put_write.ensures.fits;
}
