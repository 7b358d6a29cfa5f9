use Rattle.std.proofs.Common.{sym, subst, arith}
use Rattle.std.proofs.lemmas.Grind.{common_steps}
use Rattle.tau_outbox.specs.Pieces.{InOrder}
use Rattle.tau_outbox.proofs.Orders.{order_others, run_step}
use Rattle.tau_outbox.proofs.move_run.Goals as goal

pub loop-piece-preserved : goal.loop-piece-preserved
loop-piece-preserved c =
    let step = run_step c.loop-piece.to c.len.result c.loop-piece.pieces.items c.in-Some.piece c.in-Some.ensures.value in
    record {
      pieces = grind (arith, common_steps);
      body = grind (arith, common_steps);
      past = grind (arith, common_steps);
      room = grind (arith, common_steps);
      order = subst (InOrder 0) (sym c.take_next.ensures.others) (order_others c.loop-piece.to c.len.result 0 c.loop-piece.pieces.items c.loop-piece.invariant.order);
      kept = grind (arith, common_steps);
      spare = grind (arith, common_steps);
    }
