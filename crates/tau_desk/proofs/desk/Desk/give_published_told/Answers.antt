use Rattle.std.proofs.Common.{None, ℕ, [], ◌∷◌, refl, subst, sym, ap, ◌∙◌, arith}
use Rattle.tau_rule.specs.Knows.{Knows}
use Rattle.tau_rule.specs.Steps.{ComesHome}
use Rattle.tau_rule.specs.declared.part.Part.{Part}
use Rattle.tau_rule.specs.declared.part.Part.TheVariants as part
use Rattle.tau_desk.proofs.Publishing.{gives_published}
use Rattle.tau_desk.proofs.desk.Desk.give_published_told.Goals as goal

pub come_home-requires-clause-part : goal.come_home-requires-clause-part
come_home-requires-clause-part g c =
    let e = c.anchor_number-home.ensures in
    let there = c.requires.event.there in
    let sized = c.args.self.now.sized.2 in
    omega (arith, e, there, sized)

pub come_home-requires-clause-carried : goal.come_home-requires-clause-carried
come_home-requires-clause-carried g c = c.requires.event.carried ∙ ap (λ (k : ℕ). (k, None) ∷ []) (sym c.anchor_number-home.ensures)

pub come_home-requires-clause-home : goal.come_home-requires-clause-home
come_home-requires-clause-home g c =
    let origin = c.args.self.now.table.shared.key.value in
    let q : Part = part.Anchor c.args.number c.args.lv in
    subst (λ (x : ℕ × Knows). ComesHome origin c.args.self.now.table.shared.key.style c.args.seat.now.id c.args.seat.now.me.0 x.0 q x.1) (λ i. (sym c.anchor_number-home.ensures i, sym c.requires.told i))
    (gives_published origin c.args.seat.now.id c.args.seat.now.me c.args.stream c.args.number c.args.lv.value q refl c.requires.event)
