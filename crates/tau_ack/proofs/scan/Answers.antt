use Rattle.std.proofs.Common.{arith, ◌≡◌, ◌<◌, false, length, set, ◌∙◌, sym}
use Rattle.std.proofs.lemmas.Grind.{common_steps}
use Rattle.tau_base.specs.Vectors.{covers}
use Rattle.tau_ack.proofs.Passes.{moved_down}
use Rattle.tau_ack.proofs.scan.Goals as goal

pub loop-next-preserved : goal.loop-next-preserved
loop-next-preserved c =
    let down = c.move_down.ensures.calls c.get.result.now in
    let moved : c.move_down.new.self.calls ≡ set c.loop-next.calls.calls c.loop-next.passed c.get.result.now = grind (arith, common_steps) in
    record {
      same = grind (arith, common_steps);
      order = omega arith;
      left =
          let inside : c.loop-next.next < length c.loop-next.calls.calls = omega arith in
          let no' : covers c.args.pass.now.plv c.get.result.now.lv ≡ false = rw (← c.loop-next.invariant.vector) (sym c.covers.ensures.same ∙ c.if-covers.false) in
          rw moved (moved_down c.args.pass.now.plv c.loop-next.calls.calls c.loop-next.passed c.loop-next.next c.get.result.now c.loop-next.invariant.order inside c.loop-next.invariant.left no');
      vector = c.loop-next.invariant.vector;
      len = grind (arith, common_steps);
      room = grind (arith, common_steps);
    }
