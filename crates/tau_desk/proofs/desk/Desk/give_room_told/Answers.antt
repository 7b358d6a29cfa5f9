use Rattle.std.proofs.Common.{None, ◌≡◌, ◌+◌, ℕ, [], ◌∷◌, Some, subst, sym, ap, ◌∙◌, arith}
use Rattle.tau_base.specs.declared.limits.TheConstants.{SHARDS}
use Rattle.tau_rule.specs.Knows.{Knows}
use Rattle.tau_rule.specs.Steps.{ComesHome}
use Rattle.tau_rule.specs.Rule.{outbox_part}
use Rattle.tau_rule.specs.declared.part.Part.{Part}
use Rattle.tau_rule.specs.declared.part.Part.TheVariants as part
use Rattle.tau_desk.proofs.Reading.{gives_room}
use Rattle.tau_desk.proofs.desk.Desk.give_room_told.Goals as goal

pub come_home-requires-clause-part : goal.come_home-requires-clause-part
come_home-requires-clause-part g c =
    let sized = c.args.self.now.sized in
    let e = c.from-number.ensures in
    let w = c.requires.there in
    let b = sized.2 in
    omega arith

pub come_home-requires-clause-carried : goal.come_home-requires-clause-carried
come_home-requires-clause-carried g c =
    let at' : SHARDS + c.from-number.result ≡ outbox_part c.args.worker = (let e = c.from-number.ensures in omega arith) in
    c.requires.event.2.carried ∙ ap (λ (k : ℕ). (k, None) ∷ []) (sym at')

pub come_home-requires-clause-home : goal.come_home-requires-clause-home
come_home-requires-clause-home g c =
    let event = c.requires.event in
    let origin = c.args.self.now.table.shared.key.value in
    let v : Knows = c.args.seat.now.me.0 in
    let q : Part = part.Outbox c.args.outbox c.args.pending in
    let at' : SHARDS + c.from-number.result ≡ outbox_part c.args.worker = (let e = c.from-number.ensures in omega arith) in
    subst (λ (x : ℕ × Knows). ComesHome origin c.args.self.now.table.shared.key.style c.args.seat.now.id v x.0 q x.1) (λ i. (sym at' i, sym c.requires.told i))
    (gives_room origin c.args.seat.now.id v c.args.seat.now.me.1 q event.0 c.args.worker (c.args.room.records, c.args.room.calls) event.2 (ap Some (sym event.1)) c.requires.there c.requires.opened)
