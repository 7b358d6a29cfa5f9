use Rattle.std.proofs.Common.{◌≡◌, length, vec_len, arith}
use Rattle.std.proofs.lemmas.Grind.{common_steps}
use Rattle.tau_outbox.proofs.Orders.{order_left, gathered}
use Rattle.tau_outbox.proofs.Outbox.gather_into.Goals as goal

pub invariant_of-self : goal.invariant_of-self
invariant_of-self c = rw c.move_run.ensures.pieces (order_left c.args.next (vec_len c.try_reserve.new.self) 0 c.self.inside.pieces.items c.self.invariant)

pub returns-clause-gathers : goal.returns-clause-gathers
returns-clause-gathers c =
    let whole = gathered c.args.next c.self.inside.pieces.items c.args.body.now.items in
    let n : vec_len c.try_reserve.new.self ≡ length c.args.body.now.items = grind (arith, common_steps) in
    rw (c.move_run.ensures.pieces, c.move_run.ensures.body, c.move_run.ensures.past, c.try_reserve.ensures.items, n, ← c.self.view_is) whole
