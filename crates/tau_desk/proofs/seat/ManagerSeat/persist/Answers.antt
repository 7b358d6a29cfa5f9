use Rattle.std.proofs.Common.{ℕ, List, sym, subst}
use Rattle.tau_rule.specs.Steps.{Sat}
use Rattle.tau_desk.specs.Seats.{IsManagerSeat}
use Rattle.tau_desk.proofs.Storing.{seat_stored}
use Rattle.tau_desk.proofs.seat.ManagerSeat.persist.Goals as goal

pub invariant_of-self : goal.invariant_of-self
invariant_of-self c =
    subst (λ (z : Sat × List ℕ). IsManagerSeat z.0 c.self.inside.stream c.self.inside.stock z.1) (λ i. (sym c.persist.ensures.stored i, sym c.set.ensures i))
    (seat_stored c.self.inside.seat.me c.self.inside.stream c.args.durable c.self.inside.stock c.self.inside.seen c.self.invariant)
