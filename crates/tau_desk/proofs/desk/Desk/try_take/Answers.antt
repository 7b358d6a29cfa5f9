use Rattle.std.proofs.Common.{rules, ◌∙◌, refl, arith}
use Rattle.tau_rule.proofs.Gives.{takes_as}
use Rattle.tau_desk.proofs.desk.Desk.try_take.Goals as goal

pub compare_exchange-requires : goal.compare_exchange-requires
compare_exchange-requires c =
    let sized = c.args.self.now.sized in
    let who = c.requires.role in
    let idle = c.requires.idle in (
      search rules,
      (let a = sized.0 in let b = idle.2 in omega arith),
      takes_as c.args.self.now.table.shared.key.value _ _ c.args.number c.args.seat.now.me who.0 who.1 (sized.1 ∙ sized.2) idle.0 idle.1 (let a = sized.2 in let b = idle.2 in omega arith) c.requires.opened who.2,
    )

pub returns-clause-took : goal.returns-clause-took
returns-clause-took c is =
    let origin = c.args.self.now.table.shared.key.value in
    let t = c.compare_exchange.ensures.2.0 (search rules) c.args.number refl in
    (t.0, t.1, t.2 origin c.requires.opened)
