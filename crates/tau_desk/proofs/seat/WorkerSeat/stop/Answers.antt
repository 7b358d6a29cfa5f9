use Rattle.std.proofs.Common.{sym, subst}
use Rattle.tau_rule.specs.Steps.{Sat}
use Rattle.tau_desk.specs.Seats.{IsWorkerSeat}
use Rattle.tau_desk.proofs.Looking.{worker_raised}
use Rattle.tau_desk.proofs.seat.WorkerSeat.stop.Goals as goal

pub invariant_of-self : goal.invariant_of-self
invariant_of-self c =
    subst (λ (m : Sat). IsWorkerSeat m c.self.inside.worker c.self.inside.work (c.self.inside.anchor, c.self.inside.anchor_lv) c.self.inside.seen) (sym c.raise.ensures.raised)
    (worker_raised c.self.inside.seat.me c.self.inside.worker c.self.inside.work (c.self.inside.anchor, c.self.inside.anchor_lv) c.self.inside.seen c.self.invariant)
