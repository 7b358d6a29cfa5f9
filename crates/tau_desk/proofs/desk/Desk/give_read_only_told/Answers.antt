use Rattle.std.proofs.Common.{None, ◌≡◌, ◌+◌, ℕ, [], ◌∷◌, Some, subst, sym, ap, ◌∙◌, arith}
use Rattle.tau_base.specs.declared.limits.TheConstants.{SHARDS}
use Rattle.tau_machine.specs.Events.{DoneReading}
use Rattle.tau_rule.specs.Knows.{Knows}
use Rattle.tau_rule.specs.Steps.{ComesHome}
use Rattle.tau_rule.specs.Rule.{outbox_part}
use Rattle.tau_rule.specs.declared.part.Part.{Part}
use Rattle.tau_rule.specs.declared.part.Part.TheVariants as part
use Rattle.tau_rule.proofs.Boxes.{gives_box}
use Rattle.tau_desk.specs.Works.{joined_worker}
use Rattle.tau_desk.proofs.Reading.{told_read_only_is}
use Rattle.tau_desk.proofs.desk.Desk.give_read_only_told.Goals as goal

pub come_home-requires-clause-part : goal.come_home-requires-clause-part
come_home-requires-clause-part g c =
    let sized = c.args.self.now.sized in
    let e = c.from-number.ensures in
    let w = c.requires.event.2.there in
    let b = sized.2 in
    omega arith

pub come_home-requires-clause-carried : goal.come_home-requires-clause-carried
come_home-requires-clause-carried g c =
    let at' : SHARDS + c.from-number.result ≡ outbox_part c.args.worker = (let e = c.from-number.ensures in omega arith) in
    c.requires.event.2.carried ∙ ap (λ (k : ℕ). (k, None) ∷ []) (sym at')

pub come_home-requires-clause-home : goal.come_home-requires-clause-home
come_home-requires-clause-home g c =
    let event = c.requires.event in
    let d = event.2 in
    let origin = c.args.self.now.table.shared.key.value in
    let v : Knows = c.args.seat.now.me.0 in
    let spare : ℕ × ℕ = (c.args.room.records, c.args.room.calls) in
    let q : Part = part.Outbox c.args.outbox c.args.pending in
    let at' : SHARDS + c.from-number.result ≡ outbox_part c.args.worker = (let e = c.from-number.ensures in omega arith) in
    subst (λ (x : ℕ × Knows). ComesHome origin c.args.self.now.table.shared.key.style c.args.seat.now.id v x.0 q x.1)
    (λ i. (sym at' i, sym (c.requires.told ∙ told_read_only_is origin.load v c.args.txn.now c.args.kept.now spare c.args.worker d.role d.worker d.roles d.share) i))
    (gives_box origin c.args.seat.now.id v c.args.seat.now.me.1 q c.args.worker (joined_worker origin.load d.worker c.args.txn.now c.args.kept.now) spare (DoneReading c.args.worker)
    (record { taken = d.taken; role = d.role; worker = d.worker; before = d.before; after = event.0; held = d.held; carried = d.carried; roles = d.roles; share = d.share; was = d.was; is = ap Some (sym event.1); there = d.there; records = d.records; calls = d.calls; steps = d.steps; none = tt }) c.requires.opened)
