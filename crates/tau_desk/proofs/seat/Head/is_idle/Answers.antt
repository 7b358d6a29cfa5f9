use Rattle.std.proofs.Common.{sym, ap, subst}
use Rattle.std.specs.Prelude.{Some}
use Rattle.tau_txn.specs.Txn.{held_by, joined_of}
use Rattle.tau_desk.specs.Asks.{AreIdle}
use Rattle.tau_desk.specs.Seats.{PlainHead}
use Rattle.tau_desk.proofs.seat.Head.is_idle.Goals as goal

pub returns-clause-rests : goal.returns-clause-rests
returns-clause-rests c = λ yes w o e.
    let idle = subst (λ (p : PlainHead). AreIdle p.workers) c.self.view_is (c.works_idle.ensures.idle yes) in
    let none = idle w (Some o) e in
    (ap held_by none, ap joined_of none)

pub returns-clause-other : goal.returns-clause-other
returns-clause-other c = λ no all. c.works_idle.ensures.other no (subst (λ (p : PlainHead). AreIdle p.workers) (sym c.self.view_is) all)
