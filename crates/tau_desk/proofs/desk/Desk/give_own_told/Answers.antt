use Rattle.std.proofs.Common.{None, ℕ, [], ◌∷◌, subst, sym, ap, ◌∙◌, arith}
use Rattle.tau_rule.specs.Knows.{Knows}
use Rattle.tau_rule.specs.Steps.{ComesHome}
use Rattle.tau_rule.specs.declared.part.Part.{Part}
use Rattle.tau_desk.proofs.OwnAnchors.{gives_own, told_own_is}
use Rattle.tau_desk.proofs.desk.Desk.give_own_told.Goals as goal

pub come_home-requires-clause-part : goal.come_home-requires-clause-part
come_home-requires-clause-part g c =
    let e = c.anchor_number-number.ensures in
    let there = c.requires.event.1.there in
    let sized = c.args.self.now.sized.2 in
    omega (arith, e, there, sized)

pub come_home-requires-clause-carried : goal.come_home-requires-clause-carried
come_home-requires-clause-carried g c = c.requires.event.1.carried ∙ ap (λ (k : ℕ). (k, None) ∷ []) (sym c.anchor_number-number.ensures)

pub come_home-requires-clause-home : goal.come_home-requires-clause-home
come_home-requires-clause-home g c =
    let d = c.requires.event in
    let origin = c.args.self.now.table.shared.key.value in
    let left = c.args.stock.now.own.pieces in
    subst (λ (x : (ℕ × Part) × Knows). ComesHome origin c.args.self.now.table.shared.key.style c.args.seat.now.id c.args.seat.now.me.0 x.0.0 x.0.1 x.1)
    (λ i. ((sym c.anchor_number-number.ensures i, d.2 i), sym (c.requires.told ∙ told_own_is origin c.args.seat.now.me c.args.stream d.0 left d.1) i))
    (gives_own origin c.args.seat.now.id c.args.seat.now.me c.args.stream d.0 left d.1)
