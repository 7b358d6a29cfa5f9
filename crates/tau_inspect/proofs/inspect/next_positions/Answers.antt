-- One position more.
use Rattle.std.proofs.Common.{refl}
use Rattle.tau_report.proofs.Vectors.{component_more}
use Rattle.tau_inspect.proofs.inspect.next_positions.Goals as goal

pub loop-j-preserved : goal.loop-j-preserved
loop-j-preserved c =
    component_more c.args.out.now.items c.loop-j.out.items c.push-in-loop-j.new.self.items c.put_number-in-loop-j.new.out.items c.args.positions.now c.loop-j.j _
    c.loop-j.auto.j c.loop-j-test.true refl c.loop-j.invariant c.in_ok-push-2.ensures.items c.in_ok-put_number-2.ensures
