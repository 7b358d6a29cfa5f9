use Rattle.tau_rule.proofs.Turns.{one_role}
use Rattle.tau_desk.proofs.seat.WorkerSeat.read_anchor.Goals as goal

pub take_anchor-number-requires-clause-role : goal.take_anchor-number-requires-clause-role
take_anchor-number-requires-clause-role g c =
    let h = c.self.invariant in
    (c.self.inside.worker, h.role, one_role c.self.inside.seat.me.0 c.self.inside.worker h.role h.seat.roles)
