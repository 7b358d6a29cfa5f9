use Rattle.std.proofs.Common.{sym, subst}
use Rattle.tau_rule.specs.Steps.{Sat}
use Rattle.tau_desk.specs.Seats.{IsManagerSeat}
use Rattle.tau_desk.proofs.Looking.{manager_raised}
use Rattle.tau_desk.proofs.seat.ManagerSeat.stop.Goals as goal

pub invariant_of-self : goal.invariant_of-self
invariant_of-self c = subst (λ (m : Sat). IsManagerSeat m c.self.inside.stream c.self.inside.stock c.self.inside.seen) (sym c.raise.ensures.raised) (manager_raised c.self.inside.seat.me c.self.inside.stream c.self.inside.stock c.self.inside.seen c.self.invariant)
