use Rattle.std.proofs.Common.{sym, subst}
use Rattle.tau_desk.specs.Seats.{IsWorkerSeat}
use Rattle.tau_desk.specs.Shares.{PlainWork}
use Rattle.tau_desk.proofs.WorkerUndoes.{seat_undone}
use Rattle.tau_desk.proofs.seat.WorkerSeat.undo.Goals as goal

pub invariant_of-self : goal.invariant_of-self
invariant_of-self c =
    subst (λ (o : PlainWork). IsWorkerSeat c.self.inside.seat.me c.self.inside.worker o (c.self.inside.anchor, c.self.inside.anchor_lv) c.self.inside.seen) (sym c.undo.ensures)
    (seat_undone c.self.inside.seat.me c.self.inside.worker c.self.inside.work (c.self.inside.anchor, c.self.inside.anchor_lv) c.self.inside.seen c.self.invariant)
