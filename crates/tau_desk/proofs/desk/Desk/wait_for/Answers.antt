use Rattle.std.proofs.Common.{rules, subst, ap, ◌∙◌, refl, arith}
use Rattle.tau_rule.specs.Rule.{has}
use Rattle.tau_rule.specs.Steps.{Sat, Took}
use Rattle.tau_rule.proofs.Gives.{takes_swap_as}
use Rattle.tau_desk.proofs.desk.Desk.wait_for.Goals as goal

pub swap-requires : goal.swap-requires
swap-requires g c =
    let i = c.loop.invariant.2 in
    let sized = c.args.self.now.sized in
    let who = c.requires.role in
    let idle = c.requires.idle in (
      search rules,
      (let a = sized.0 in let b = idle.2 in omega arith),
      takes_swap_as c.args.self.now.table.shared.key.value _ _ c.args.number c.loop.seat.me who.0 who.1 (sized.1 ∙ sized.2) (ap (λ m. m.1) i ∙ idle.0) (ap (λ m. m.0.hand) i ∙ idle.1)
          (let a = sized.2 in let b = idle.2 in omega arith) (ap (λ m. m.0.opened) i ∙ c.requires.opened) (ap (λ m. has who.0 m.0) i ∙ who.2),
    )

pub returns-then-swap-eq0-clause-took : goal.returns-then-swap-eq0-clause-took
returns-then-swap-eq0-clause-took g c =
    let origin = c.args.self.now.table.shared.key.value in
    let i = c.loop.invariant.2 in
    let t = c.swap.ensures.2.0 (search rules) c.args.number refl in
    let took : Took origin c.args.number c.loop.seat.me c.swap.new.seat.me = (t.0, t.1, t.2 origin (ap (λ m. m.0.opened) i ∙ c.requires.opened)) in
    subst (λ (m : Sat). Took origin c.args.number m c.swap.new.seat.me) i took
