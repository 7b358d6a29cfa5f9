use Rattle.std.proofs.Common.{◌≡◌, ℕ, refl, subst, sym, ap, ◌∙◌}
use Rattle.tau_core.specs.View.{setting_of}
use Rattle.tau_rule.specs.Knows.{Knows}
use Rattle.tau_rule.specs.Steps.{ComesHome}
use Rattle.tau_rule.specs.Rule.{anchor_part}
use Rattle.tau_rule.specs.declared.part.Part.{Part}
use Rattle.tau_rule.specs.declared.part.Part.TheVariants as part
use Rattle.tau_desk.proofs.Reading.{first_number, gives_read}
use Rattle.tau_desk.proofs.desk.Desk.give_read_told.Goals as goal

pub come_home-requires-clause-home : goal.come_home-requires-clause-home
come_home-requires-clause-home g c =
    let d = c.requires.event in
    let origin = c.args.self.now.table.shared.key.value in
    let v : Knows = c.args.seat.now.me.0 in
    let q : Part = part.Anchor c.args.number c.args.lv in
    let same : c.args.part ≡ anchor_part origin.load ((setting_of origin.load).stream_of c.args.worker) = ap first_number (sym c.requires.there ∙ d.carried) in
    subst (λ (x : ℕ × Knows). ComesHome origin c.args.self.now.table.shared.key.style c.args.seat.now.id v x.0 q x.1) (λ i. (sym same i, sym c.requires.told i))
    (gives_read origin c.args.seat.now.id v c.args.seat.now.me.1 q c.args.worker c.args.number c.args.lv.value d refl c.requires.opened)
