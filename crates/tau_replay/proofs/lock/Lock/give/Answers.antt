-- The step keeps the rule.
use Rattle.std.proofs.Common.{rules, ◌∷◌, Some, subst, sym, ap, ◌∙◌}
use Rattle.atomic_table.specs.Table.{rest}
use Rattle.tau_replay.specs.Rule.{MayGive}
use Rattle.tau_replay.proofs.Steps.{gives_part}
use Rattle.tau_replay.proofs.Firsts.{given_is}
use Rattle.tau_replay.proofs.lock.Lock.give.Goals as goal

pub swap-requires : goal.swap-requires
swap-requires c =
    let sized = c.args.self.now.sized in
    let held = c.requires.held in
    let now = c.exchange.ensures.3 in (
      search rules,
      search rules,
      gives_part _ _ _ c.exchange.new.seat.me c.args.part sized.1 (ap (λ m. m.1) now ∙ ap (λ r. (0, Some c.args.part) ∷ rest r) held.0)
          (subst (λ v. MayGive v c.args.part) (sym (ap (λ m. m.0) now)) held.1),
    )

pub returns-then-swap-eq2-clause-given : goal.returns-then-swap-eq2-clause-given
returns-then-swap-eq2-clause-given c = given_is _ _ c.swap.new.seat.me c.args.part c.requires.held.0 c.exchange.ensures.3 c.swap.ensures.2

pub returns-else-swap-eq2-clause-given : goal.returns-else-swap-eq2-clause-given
returns-else-swap-eq2-clause-given c = given_is _ _ c.swap.new.seat.me c.args.part c.requires.held.0 c.exchange.ensures.3 c.swap.ensures.2
