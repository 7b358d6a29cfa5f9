-- The slot that the seat has is full.
use Rattle.std.proofs.Common.{rules, None, ◌≡◌, [], ◌∷◌, Some, subst, sym, ap, ◌∙◌, refl}
use Rattle.std.specs.Option.{IsSome}
use Rattle.atomic_table.specs.Table.{rest}
use Rattle.tau_replay.proofs.Firsts.{first}
use Rattle.tau_replay.proofs.lock.Lock.lift.Goals as goal

pub exchange-requires : goal.exchange-requires
exchange-requires c =
    let p = c.requires.has in
    (search rules, (Some p.0, p.1 ∙ ap (λ r. (0, Some p.0) ∷ rest r) (sym p.1)))

pub unwrap-requires : goal.unwrap-requires
unwrap-requires c =
    let p = c.requires.has in
    subst IsSome (first (sym p.1 ∙ c.exchange.ensures.2)) refl

pub returns-clause-part : goal.returns-clause-part
returns-clause-part c =
    let p = c.requires.has in
    let e = c.unwrap.ensures in
    let same : Some p.0 ≡ Some c.unwrap.result = first (sym p.1 ∙ c.exchange.ensures.2) ∙ e in
    p.1 ∙ ap (λ z. (0, z) ∷ []) same

pub returns-clause-seat : goal.returns-clause-seat
returns-clause-seat c =
    let p = c.requires.has in
    c.exchange.ensures.3 ∙ ap (λ r. (c.args.seat.now.me.0, (0, None) ∷ rest r)) p.1
