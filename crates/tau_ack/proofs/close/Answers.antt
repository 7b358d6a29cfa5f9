use Rattle.std.proofs.Common.{arith, ◌<◌, [], length}
use Rattle.std.proofs.lemmas.Grind.{common_steps}
use Rattle.tau_ack.specs.declared.Waiting.{Waiting}
use Rattle.tau_ack.proofs.close.Goals as goal

abbrev none : Waiting
none = record { number = 0; lv = [] }

pub loop-from-preserved : goal.loop-from-preserved
loop-from-preserved c =
    let inside : c.loop-from.from < length c.loop-from.calls.calls = grind (arith, common_steps) in
    let down = c.move_down.ensures.calls none in
    record {
      same = grind (arith, common_steps);
      order = omega arith;
      len = grind (arith, common_steps);
      room = grind (arith, common_steps);
    }
