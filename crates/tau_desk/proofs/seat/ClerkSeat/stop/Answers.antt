use Rattle.std.proofs.Common.{sym, subst}
use Rattle.tau_rule.specs.Steps.{Sat}
use Rattle.tau_desk.specs.Seats.{IsClerkSeat}
use Rattle.tau_desk.proofs.Looking.{clerk_raised}
use Rattle.tau_desk.proofs.seat.ClerkSeat.stop.Goals as goal

pub invariant_of-self : goal.invariant_of-self
invariant_of-self c = subst (λ (m : Sat). IsClerkSeat m c.self.inside.seen) (sym c.raise.ensures.raised) (clerk_raised c.self.inside.seat.me c.self.inside.seen c.self.invariant)
