use Rattle.std.proofs.Common.{◌≡◌, ◌+◌, ℕ, [], refl, subst, sym, ap, ◌∙◌, arith}
use Rattle.tau_base.specs.declared.limits.TheConstants.{SHARDS}
use Rattle.tau_outbox.specs.Gather.{Gathers}
use Rattle.tau_outbox.specs.Pieces.{PlainOutbox}
use Rattle.tau_core.specs.State.{Plain}
use Rattle.tau_rule.specs.Boxes.{BoxOf, gathered_by}
use Rattle.tau_rule.specs.Rule.{manager_role, outbox_part}
use Rattle.tau_rule.specs.Steps.{Sat}
use Rattle.tau_rule.specs.declared.part.Part.TheVariants as part
use Rattle.tau_rule.proofs.Turns.{one_role}
use Rattle.tau_desk.specs.Manages.{GathersBox, managed_in, managing, told_gathered}
use Rattle.tau_desk.specs.Shares.{PlainStock}
use Rattle.tau_desk.specs.Seats.{IsManagerSeat, PlainManagerSeat}
use Rattle.tau_desk.proofs.Taking.{at_key, box_back, box_gathered, box_small, seat_gathered, told_holding}
use Rattle.tau_desk.proofs.seat.ManagerSeat.gather.Goals as goal

pub take_box-outbox-requires-clause-role : goal.take_box-outbox-requires-clause-role
take_box-outbox-requires-clause-role g c =
    let h = c.self.invariant in
    (manager_role h.origin.load c.self.inside.stream, h.role, one_role c.self.inside.seat.me.0 (manager_role h.origin.load c.self.inside.stream) h.role h.roles)

pub give_gathered-requires-clause-event : goal.give_gathered-requires-clause-event
give_gathered-requires-clause-event g c =
    let held = c.take_box-outbox.ensures.held in
    let b : BoxOf = (c.take_box-outbox.result.0.value, c.take_box-outbox.result.1.value) in
    let b' : BoxOf = (c.gather_into.new.self, c.take_box-outbox.result.1.value) in
    let before : c.deref_mut.result.now ≡ c.take_box-outbox.result.0.value = c.deref_mut.ensures.value in
    let moved : Gathers c.self.inside.stock.gathered b.0.pieces b'.0.pieces c.args.body.now.items c.gather_into.new.body.items c.in-Ok.past =
    subst (λ (z : ℕ × PlainOutbox). Gathers z.0 z.1.pieces b'.0.pieces c.args.body.now.items c.gather_into.new.body.items c.in-Ok.past) (λ i. (c.upto.ensures i, before i)) c.in-Ok.ensures.gathers in (
      moved.taken,
      box_gathered c.args.desk.now.table.shared.key.value c.self.inside.seat.me c.take_box-outbox.new.seat.me c.self.inside.stream c.args.worker c.self.inside.stock
          (at_key c.self.inside.seat.me c.self.inside.stream c.self.inside.stock c.self.inside.seen c.args.desk.now.table.shared.key.value c.self.invariant (ap (λ s. s.me.0.opened) c.self.view_is ∙ c.requires.opened))
          held.0 _ b b' c.args.body.now.items c.gather_into.new.body.items c.in-Ok.past c.requires.there (c.requires.whose ∙ sym (ap (λ s. s.stream) c.self.view_is)) held.1 held.2 refl refl
          (let e = ap (λ (o : PlainOutbox). o.room) before in let d = c.in-Ok.ensures.room in omega (arith, e, d)) (omega arith) moved,
    )

pub invariant_of-self : goal.invariant_of-self
invariant_of-self g c =
    let held = c.take_box-outbox.ensures.held in
    let b : BoxOf = (c.take_box-outbox.result.0.value, c.take_box-outbox.result.1.value) in
    let before : c.deref_mut.result.now ≡ c.take_box-outbox.result.0.value = c.deref_mut.ensures.value in
    let moved : Gathers c.self.inside.stock.gathered b.0.pieces c.gather_into.new.self.pieces c.args.body.now.items c.gather_into.new.body.items c.in-Ok.past =
    subst (λ (z : ℕ × PlainOutbox). Gathers z.0 z.1.pieces c.gather_into.new.self.pieces c.args.body.now.items c.gather_into.new.body.items c.in-Ok.past) (λ i. (c.upto.ensures i, before i)) c.in-Ok.ensures.gathers in
    let knows : c.give_gathered.new.seat.me ≡ (managing c.self.inside.seat.me.0 (gathered_by (managed_in c.self.inside.seat.me.0) moved.taken), []) =
    c.give_gathered.ensures.given ∙ ap (λ (m : Sat). (told_gathered m.0 c.gather_into.new.self.pieces, [])) held.1
    ∙ ap (λ v. (v, [])) (told_holding (outbox_part c.args.worker) c.self.inside.seat.me.0 held.0 b moved.taken c.gather_into.new.self.pieces held.2 moved.front) in
    subst (λ (z : Sat × PlainStock). IsManagerSeat z.0 c.self.inside.stream z.1 c.self.inside.seen) (λ i. (sym knows i, sym c.goes_to.ensures i))
    (seat_gathered c.self.inside.seat.me c.self.inside.stream c.self.inside.stock c.self.inside.seen moved.taken c.in-Ok.past c.self.invariant moved.past
    (box_small c.args.desk.now.table.shared.key.value c.self.inside.seat.me c.self.inside.stream c.args.worker c.self.inside.stock
    (at_key c.self.inside.seat.me c.self.inside.stream c.self.inside.stock c.self.inside.seen c.args.desk.now.table.shared.key.value c.self.invariant (ap (λ s. s.me.0.opened) c.self.view_is ∙ c.requires.opened))
    held.0 b c.gather_into.new.self.pieces c.args.body.now.items c.gather_into.new.body.items c.in-Ok.past c.requires.there (c.requires.whose ∙ sym (ap (λ s. s.stream) c.self.view_is)) held.3 held.2 moved))

pub give_back-requires-clause-same : goal.give_back-requires-clause-same
give_back-requires-clause-same g c =
    let h = c.self.invariant in
    let held = c.take_box-outbox.ensures.held in
    let before : c.deref_mut.result.now ≡ c.take_box-outbox.result.0.value = c.deref_mut.ensures.value in
    box_back c.args.desk.now.table.shared.key.value c.self.inside.seat.me c.take_box-outbox.new.seat.me (manager_role h.origin.load c.self.inside.stream) h.role c.args.worker (SHARDS + c.from.result) held.0
    (part.Outbox (Rattle.std.specs.Box.with_value c.take_box-outbox.result.0 c.gather_into.new.self) c.take_box-outbox.result.1) (c.take_box-outbox.result.0.value, c.take_box-outbox.result.1.value) (c.gather_into.new.self, c.take_box-outbox.result.1.value)
    h.roles c.requires.there (let e = c.from.ensures in omega (arith, e)) held.1 held.2 refl (c.in-Err.ensures.same_pieces ∙ ap (λ (o : PlainOutbox). o.pieces) before) refl
    (let e = ap (λ (o : PlainOutbox). o.room) before in let d = c.in-Err.ensures.room in omega (arith, e, d)) (omega arith)

pub returns-in-Ok-clause-gathers : goal.returns-in-Ok-clause-gathers
returns-in-Ok-clause-gathers g c =
    let held = c.take_box-outbox.ensures.held in
    let key : Plain = c.args.desk.now.table.shared.key.value in
    let b : BoxOf = (c.take_box-outbox.result.0.value, c.take_box-outbox.result.1.value) in
    let before : c.deref_mut.result.now ≡ c.take_box-outbox.result.0.value = c.deref_mut.ensures.value in
    let moved : Gathers c.self.inside.stock.gathered b.0.pieces c.gather_into.new.self.pieces c.args.body.now.items c.gather_into.new.body.items c.goes_to.new.self.gathered =
    subst (λ (z : (ℕ × ℕ) × PlainOutbox). Gathers z.0.0 z.1.pieces c.gather_into.new.self.pieces c.args.body.now.items c.gather_into.new.body.items z.0.1) (λ i. ((c.upto.ensures i, sym (ap (λ (o : PlainStock). o.gathered) c.goes_to.ensures) i), before i)) c.in-Ok.ensures.gathers in
    let knows : c.give_gathered.new.seat.me ≡ (managing c.self.inside.seat.me.0 (gathered_by (managed_in c.self.inside.seat.me.0) moved.taken), []) =
    c.give_gathered.ensures.given ∙ ap (λ (m : Sat). (told_gathered m.0 c.gather_into.new.self.pieces, [])) held.1
    ∙ ap (λ v. (v, [])) (told_holding (outbox_part c.args.worker) c.self.inside.seat.me.0 held.0 b moved.taken c.gather_into.new.self.pieces held.2 moved.front) in
    let own = c.give_gathered.ensures.own in
    let took = c.take_box-outbox.ensures.own in
    let s : PlainManagerSeat = record { table_id = c.self.inside.seat.table_id; id = c.self.inside.seat.id; me = c.self.inside.seat.me; stream = c.self.inside.stream; stock = c.self.inside.stock; seen = c.self.inside.seen } in
    let s' : PlainManagerSeat = record { table_id = c.give_gathered.new.seat.table_id; id = c.give_gathered.new.seat.id; me = c.give_gathered.new.seat.me; stream = c.self.inside.stream; stock = c.goes_to.new.self; seen = c.self.inside.seen } in
    let stock : c.goes_to.new.self ≡ record c.self.inside.stock { gathered = c.goes_to.new.self.gathered } =
    c.goes_to.ensures ∙ ap (λ (n : ℕ). record c.self.inside.stock { gathered = n }) (sym (ap (λ (o : PlainStock). o.gathered) c.goes_to.ensures)) in
    let all : GathersBox key s c.args.worker c.args.body.now.items s' c.gather_into.new.body.items = record {
      part_taken = held.0;
      agrees = held.3;
      before = b;
      was = held.2;
      left = c.gather_into.new.self.pieces;
      moved = moved;
      after = λ i. record s { table_id = (own.0 ∙ took.0) i; id = (own.1 ∙ took.1) i; me = knows i; stock = stock i };
    } in
    subst (λ (z : PlainManagerSeat). GathersBox key z c.args.worker c.args.body.now.items s' c.gather_into.new.body.items) c.self.view_is all
