use Rattle.std.proofs.Common.{None, ◌≡◌, ◌+◌, ℕ, [], ◌∷◌, refl, subst, sym, ap, ◌∙◌, arith}
use Rattle.tau_base.specs.declared.limits.TheConstants.{SHARDS}
use Rattle.tau_rule.specs.Knows.{Knows}
use Rattle.tau_rule.specs.Steps.{ComesHome}
use Rattle.tau_rule.specs.Rule.{outbox_part}
use Rattle.tau_rule.specs.declared.part.Part.{Part}
use Rattle.tau_rule.specs.declared.part.Part.TheVariants as part
use Rattle.tau_rule.proofs.Gathering.{gives_gathered}
use Rattle.tau_desk.proofs.Taking.{told_gathered_is}
use Rattle.tau_desk.proofs.desk.Desk.give_gathered_told.Goals as goal

pub come_home-requires-clause-part : goal.come_home-requires-clause-part
come_home-requires-clause-part g c =
    let sized = c.args.self.now.sized in
    let e = c.from-number.ensures in
    let w = c.requires.event.1.low in
    let b = sized.2 in
    omega (arith, e, w, b)

pub come_home-requires-clause-carried : goal.come_home-requires-clause-carried
come_home-requires-clause-carried g c =
    let at' : SHARDS + c.from-number.result ≡ outbox_part c.args.worker = (let e = c.from-number.ensures in omega (arith, e)) in
    c.requires.carried ∙ ap (λ (k : ℕ). (k, None) ∷ []) (sym at')

pub come_home-requires-clause-home : goal.come_home-requires-clause-home
come_home-requires-clause-home g c =
    let d = c.requires.event in
    let origin = c.args.self.now.table.shared.key.value in
    let q : Part = part.Outbox c.args.outbox c.args.pending in
    let at' : SHARDS + c.from-number.result ≡ outbox_part c.args.worker = (let e = c.from-number.ensures in omega (arith, e)) in
    subst (λ (x : ℕ × Knows). ComesHome origin c.args.self.now.table.shared.key.style c.args.seat.now.id c.args.seat.now.me.0 x.0 q x.1)
    (λ i. (sym at' i, sym (c.requires.told ∙ told_gathered_is origin c.args.seat.now.me q c.args.worker c.args.stream d.0 d.1 (c.args.outbox.value, c.args.pending.value) refl) i))
    (gives_gathered origin c.args.seat.now.id c.args.seat.now.me.0 c.args.seat.now.me.1 q c.args.worker c.args.stream d.0 d.1)
