use Rattle.std.proofs.Common.{subst}
use Rattle.tau_core.specs.State.{Plain}
use Rattle.tau_desk.specs.Looks.{StopStands}
use Rattle.tau_desk.specs.Seats.{PlainWorkerSeat}
use Rattle.tau_desk.proofs.Words.{has_raised}
use Rattle.tau_desk.proofs.seat.WorkerSeat.stopped.Goals as goal

pub returns-clause-stands : goal.returns-clause-stands
returns-clause-stands c = subst (λ (s : PlainWorkerSeat). StopStands c.args.desk.now.table.shared.key.value s.me.0 c.found.result) c.self.view_is c.found.ensures.stands

pub returns-clause-mine : goal.returns-clause-mine
returns-clause-mine c =
    let key : Plain = c.args.desk.now.table.shared.key.value in
    λ raised. has_raised key c.args.self.now.me.0 c.found.result (subst (λ (s : PlainWorkerSeat). StopStands key s.me.0 c.found.result) c.self.view_is c.found.ensures.stands) raised
