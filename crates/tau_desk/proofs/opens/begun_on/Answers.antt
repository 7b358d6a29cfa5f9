use Rattle.std.proofs.Common.{ℕ, List, true, refl, sym, ap, subst, ◌∙◌}
use Rattle.tau_rule.specs.Steps.{Sat}
use Rattle.tau_desk.specs.Seats.{IsHead}
use Rattle.tau_desk.proofs.Beginning.{all_stock, all_unbegun, all_work, head_is}
use Rattle.tau_desk.proofs.opens.begun_on.Goals as goal

pub table_of-requires-clause-laid : goal.table_of-requires-clause-laid
table_of-requires-clause-laid c = (c.args.laid.1.items, c.args.laid.2.items, c.requires.laid)

pub invariant_of-head : goal.invariant_of-head
invariant_of-head c =
    let core = c.args.key.now.value in
    let l = c.args.laid in
    subst (λ (z : Sat × List ℕ). IsHead z.0 l.1.items l.2.items true z.1) (λ i. (sym c.in_ok-table.ensures.made.1 i, sym c.requires.ends i)) (head_is core c.requires.opened c.requires.short l.1.items l.2.items c.requires.laid.own_work c.requires.laid.own_stock)

pub returns : goal.returns
returns c =
    let core = c.args.key.now.value in
    let l = c.args.laid in (
      ap (λ k. k.value) (c.in_ok-desk.ensures.0 ∙ c.in_ok-table.ensures.made.0),
      record { opened = c.requires.opened; knows = c.in_ok-table.ensures.made.1 },
      record { workers = all_work core.seats l.1.items c.requires.laid.own_work; managers = all_stock core.ends core.streams l.2.items c.requires.laid.own_stock; clerk = refl },
      c.in_ok-table.ensures.made.2 ∙ sym c.in_ok-desk.ensures.1,
      all_unbegun core c.requires.opened l.1.items c.requires.laid.own_work,
      ap (λ k. k.style) (c.in_ok-desk.ensures.0 ∙ c.in_ok-table.ensures.made.0),
    )
