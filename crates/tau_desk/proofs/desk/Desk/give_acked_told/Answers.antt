use Rattle.std.proofs.Common.{None, ◌≡◌, ◌+◌, ℕ, [], ◌∷◌, Some, subst, sym, ap, ◌∙◌, arith}
use Rattle.tau_base.specs.declared.limits.TheConstants.{SHARDS}
use Rattle.tau_rule.specs.Knows.{Knows}
use Rattle.tau_rule.specs.Steps.{ComesHome}
use Rattle.tau_rule.specs.Rule.{outbox_part}
use Rattle.tau_rule.specs.declared.part.Part.{Part}
use Rattle.tau_rule.specs.declared.part.Part.TheVariants as part
use Rattle.tau_desk.proofs.Acknowledging.{gives_acked, told_acked_is}
use Rattle.tau_desk.proofs.desk.Desk.give_acked_told.Goals as goal

pub come_home-requires-clause-part : goal.come_home-requires-clause-part
come_home-requires-clause-part g c =
    let sized = c.args.self.now.sized in
    let e = c.from-number.ensures in
    let w = c.requires.event.2.there in
    let b = sized.2 in
    omega (arith, e, w, b)

pub come_home-requires-clause-carried : goal.come_home-requires-clause-carried
come_home-requires-clause-carried g c =
    let at' : SHARDS + c.from-number.result ≡ outbox_part c.args.worker = (let e = c.from-number.ensures in omega (arith, e)) in
    c.requires.event.2.carried ∙ ap (λ (k : ℕ). (k, None) ∷ []) (sym at')

pub come_home-requires-clause-home : goal.come_home-requires-clause-home
come_home-requires-clause-home g c =
    let event = c.requires.event in
    let origin = c.args.self.now.table.shared.key.value in
    let q : Part = part.Outbox c.args.outbox c.args.pending in
    let at' : SHARDS + c.from-number.result ≡ outbox_part c.args.worker = (let e = c.from-number.ensures in omega (arith, e)) in
    subst (λ (x : ℕ × Knows). ComesHome origin c.args.self.now.table.shared.key.style c.args.seat.now.id c.args.seat.now.me.0 x.0 q x.1)
    (λ i. (sym at' i, sym (c.requires.told ∙ told_acked_is origin.load c.args.seat.now.me event.0 c.args.worker c.args.call.now event.2) i))
    (gives_acked origin c.args.seat.now.id c.args.seat.now.me q event.0 c.args.worker c.args.call.now (ap Some (sym event.1)) event.2 c.requires.opened)
