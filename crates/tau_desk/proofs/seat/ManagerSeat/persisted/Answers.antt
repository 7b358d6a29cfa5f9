use Rattle.std.proofs.Common.{ℕ, List, subst}
use Rattle.tau_core.specs.State.{Plain}
use Rattle.tau_desk.specs.Looks.{PersistedAt}
use Rattle.tau_desk.specs.Seats.{PlainManagerSeat}
use Rattle.tau_desk.proofs.seat.ManagerSeat.persisted.Goals as goal

pub returns-clause-stands : goal.returns-clause-stands
returns-clause-stands c =
    let key : Plain = c.args.desk.now.table.shared.key.value in
    subst (λ (s : PlainManagerSeat). PersistedAt key s.me.0 s.seen c.args.stream c.persisted-upto.result) c.self.view_is
    (subst (λ (seen : List ℕ). PersistedAt key c.self.inside.seat.me.0 seen c.args.stream c.persisted-upto.result) c.self.invariant.seen_is c.persisted-upto.ensures.stands)
