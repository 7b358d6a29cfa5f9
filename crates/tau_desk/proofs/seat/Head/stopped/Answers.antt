use Rattle.std.proofs.Common.{sym, subst}
use Rattle.tau_core.specs.State.{Plain}
use Rattle.tau_desk.specs.Looks.{StopStands}
use Rattle.tau_desk.specs.Seats.{IsHead, PlainHead}
use Rattle.tau_desk.proofs.Words.{has_raised}
use Rattle.tau_rule.specs.Steps.{Sat}
use Rattle.tau_desk.proofs.Looking.{head_found}
use Rattle.tau_desk.proofs.seat.Head.stopped.Goals as goal

pub invariant_of-self : goal.invariant_of-self
invariant_of-self c =
    subst (λ (m : Sat). IsHead m c.self.inside.workers.items c.self.inside.managers.items c.self.inside.clerk c.self.inside.seen) (sym c.found.ensures.found.2)
    (head_found c.self.inside.seat.me c.self.inside.workers.items c.self.inside.managers.items c.self.inside.clerk c.self.inside.seen c.found.ensures.found.0 c.self.invariant)

pub returns-clause-stands : goal.returns-clause-stands
returns-clause-stands c = subst (λ (s : PlainHead). StopStands c.args.desk.now.table.shared.key.value s.me.0 c.found.result) c.self.view_is c.found.ensures.stands

pub returns-clause-mine : goal.returns-clause-mine
returns-clause-mine c =
    let key : Plain = c.args.desk.now.table.shared.key.value in
    λ raised. has_raised key c.args.self.now.me.0 c.found.result (subst (λ (s : PlainHead). StopStands key s.me.0 c.found.result) c.self.view_is c.found.ensures.stands) raised
