use Rattle.std.proofs.Common.{sym, subst}
use Rattle.tau_rule.specs.Steps.{Sat}
use Rattle.tau_desk.specs.Seats.{IsHead}
use Rattle.tau_desk.proofs.EndStops.{head_raised}
use Rattle.tau_desk.proofs.seat.Head.stop.Goals as goal

pub invariant_of-self : goal.invariant_of-self
invariant_of-self c =
    subst (λ (m : Sat). IsHead m c.self.inside.workers.items c.self.inside.managers.items c.self.inside.clerk c.self.inside.seen) (sym c.raise_head.ensures.raised)
    (head_raised c.self.inside.seat.me c.self.inside.workers.items c.self.inside.managers.items c.self.inside.clerk c.self.inside.seen c.self.invariant)
