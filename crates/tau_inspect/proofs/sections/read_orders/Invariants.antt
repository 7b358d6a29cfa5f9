-- What was read, and what is left.
use Rattle.std.proofs.Common.{length}
use Rattle.tau_inspect.specs.Sections.{AreOrders}
use Rattle.tau_inspect.proofs.sections.read_orders.Given as goal

abbrev pub invariant-lines : goal.invariant-lines
invariant-lines l = AreOrders l.calls l.text l.order l.rest

abbrev pub decreases-lines : goal.decreases-lines
decreases-lines l = length l.rest
