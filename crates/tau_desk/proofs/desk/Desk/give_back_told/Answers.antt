use Rattle.std.proofs.Common.{sym, subst}
use Rattle.tau_rule.specs.Knows.{Knows}
use Rattle.tau_rule.specs.Steps.{ComesHome}
use Rattle.tau_rule.proofs.Gives.{gives_same}
use Rattle.tau_desk.proofs.desk.Desk.give_back_told.Goals as goal

pub come_home-requires-clause-home : goal.come_home-requires-clause-home
come_home-requires-clause-home g c =
    let d = c.requires.same in
    let origin = c.args.self.now.table.shared.key.value in
    let v : Knows = c.args.seat.now.me.0 in
    subst (λ (x : Knows). ComesHome origin c.args.self.now.table.shared.key.style c.args.seat.now.id v c.args.number c.args.part x) (sym c.requires.told)
    (gives_same origin c.args.seat.now.id c.args.number v d.taken c.args.part d.number d.role c.requires.opened d.held d.roles d.same)
