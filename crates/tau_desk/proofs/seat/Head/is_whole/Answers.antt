use Rattle.std.proofs.Common.{sym, subst}
use Rattle.tau_desk.specs.Asks.{AreThere}
use Rattle.tau_desk.specs.Seats.{PlainHead}
use Rattle.tau_desk.proofs.seat.Head.is_whole.Goals as goal

pub returns-then-not-works_there-clause-out : goal.returns-then-not-works_there-clause-out
returns-then-not-works_there-clause-out c = λ e whole.
    c.works_there.ensures.out c.if-not-works_there.true (subst (λ (p : PlainHead). AreThere p.workers) (sym c.self.view_is) whole.workers)

pub returns-then-not-stocks_there-clause-out : goal.returns-then-not-stocks_there-clause-out
returns-then-not-stocks_there-clause-out c = λ e whole.
    c.stocks_there.ensures.out c.if-not-stocks_there.true (subst (λ (p : PlainHead). AreThere p.managers) (sym c.self.view_is) whole.managers)
