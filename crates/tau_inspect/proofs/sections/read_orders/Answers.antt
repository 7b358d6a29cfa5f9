-- One more call of the history.
use Rattle.std.proofs.Common.{ℕ, List, ◌<◌, ◌^◌, refl, sym, subst, rules}
use Rattle.tau_inspect.specs.Bodies.{order_body}
use Rattle.tau_inspect.specs.Sections.{AreOrders}
use Rattle.tau_inspect.proofs.Leaving.{orders_none}
use Rattle.tau_inspect.proofs.ReadSections.{order_more}
use Rattle.tau_inspect.proofs.sections.read_orders.Goals as goal

pub returns-in-None-clause-stops : goal.returns-in-None-clause-stops
returns-in-None-clause-stops c =
    let small : c.args.calls < 2 ^ 32 = search rules in
    orders_none c.args.calls small c.lines.order c.lines.rest.now c.lines.invariant.numbers (rw c.in-None.is at c.in_ok-next_order.ensures)

pub lines-preserved : goal.lines-preserved
lines-preserved c =
    let found = rw c.in-Some.is at c.in_ok-next_order.ensures in
    let k : ℕ = c.in-Some.number in
    subst (λ (l : List ℕ). AreOrders c.args.calls c.args.text.now l c.in-Some.following.now) (sym c.in_ok-push-in-Some.ensures.ok)
    (order_more c.args.calls c.args.text.now c.lines.order c.lines.rest.now (order_body k) c.in-Some.following.now k c.lines.invariant found.0 found.1 refl)
