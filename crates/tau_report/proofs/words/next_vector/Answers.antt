use Rattle.std.proofs.Common.{◌<◌, length, arith}
use Rattle.tau_report.proofs.Vectors.{component_more}
use Rattle.tau_report.proofs.words.next_vector.Goals as goal

pub loop-j-preserved : goal.loop-j-preserved
loop-j-preserved c =
    let lt : c.loop-j.j < length c.args.lv.now = omega (arith, c.loop-j-test.true, c.width-width.ensures.same) in
    component_more c.args.out.now.items c.loop-j.out.items c.push.new.self.items c.put_number.new.out.items c.args.lv.now c.loop-j.j c.get-in-loop-j.result
    c.loop-j.auto.j lt c.get-in-loop-j.ensures.same c.loop-j.invariant c.in_ok-push.ensures.items c.in_ok-put_number.ensures
