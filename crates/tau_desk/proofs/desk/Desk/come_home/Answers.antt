use Rattle.std.proofs.Common.{rules, None, ◌∷◌, Some, sym, ap, ◌∙◌, arith}
use Rattle.atomic_table.specs.Table.{rest}
use Rattle.tau_rule.proofs.Gives.{comes_home_as}
use Rattle.tau_desk.proofs.desk.Desk.come_home.Goals as goal

pub exchange-requires : goal.exchange-requires
exchange-requires g c =
    let d = c.requires.carried in
    (search rules, (None, d ∙ (λ i. (c.args.number, None) ∷ rest (sym d i))))

pub swap-requires : goal.swap-requires
swap-requires g c =
    let sized = c.args.self.now.sized in
    let now = c.exchange.ensures.3 in (
      search rules,
      (let a = sized.0 in let b = c.requires.part in omega arith),
      comes_home_as c.args.self.now.table.shared.key.value _ c.exchange.new.seat.id c.args.seat.now.id c.args.number c.exchange.new.seat.me c.args.part c.args.seat.now.me.0 _ (sized.1 ∙ sized.2) c.exchange.ensures.1
          (ap (λ m. m.1) now ∙ ap (λ r. (c.args.number, Some c.args.part) ∷ rest r) c.requires.carried) (ap (λ m. m.0) now) c.requires.home,
    )
