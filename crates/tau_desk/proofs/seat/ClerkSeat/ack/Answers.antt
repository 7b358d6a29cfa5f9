use Rattle.std.proofs.Common.{◌≡◌, ◌+◌, [], refl, subst, sym, ap, ◌∙◌, arith}
use Rattle.std.specs.Box.{with_value}
use Rattle.tau_base.specs.declared.limits.TheConstants.{SHARDS}
use Rattle.tau_ack.specs.Pending.{PlainPending, TakesFirst}
use Rattle.tau_core.specs.State.{Plain}
use Rattle.tau_rule.specs.Boxes.{BoxOf}
use Rattle.tau_rule.specs.Rule.{clerk_role}
use Rattle.tau_rule.specs.Steps.{Sat}
use Rattle.tau_rule.specs.declared.part.Part.TheVariants as part
use Rattle.tau_rule.proofs.Turns.{one_role}
use Rattle.tau_desk.specs.Manages.{AcksFirst, told_acked}
use Rattle.tau_desk.specs.Seats.{IsClerkSeat, PlainClerkSeat}
use Rattle.tau_desk.proofs.Acknowledging.{at_key, box_acked, seat_acked}
use Rattle.tau_desk.proofs.Taking.{box_back}
use Rattle.tau_desk.proofs.seat.ClerkSeat.ack.Goals as goal

pub take_box-outbox-requires-clause-role : goal.take_box-outbox-requires-clause-role
take_box-outbox-requires-clause-role g c =
    let h = c.self.invariant in
    (clerk_role h.origin.load, h.role, one_role c.self.inside.seat.me.0 (clerk_role h.origin.load) h.role h.roles)

pub give_acked-requires-clause-event : goal.give_acked-requires-clause-event
give_acked-requires-clause-event g c =
    let key : Plain = c.args.desk.now.table.shared.key.value in
    let held = c.take_box-outbox.ensures.held in
    let h = c.self.invariant in
    let b : BoxOf = (c.take_box-outbox.result.0.value, c.take_box-outbox.result.1.value) in
    let b' : BoxOf = (c.take_box-outbox.result.0.value, c.take_first.new.pending) in
    let before : c.deref_mut.result.now ≡ c.take_box-outbox.result.1.value = c.deref_mut.ensures.value in
    let takes : TakesFirst c.self.inside.seen b.1.calls c.take_first.new.call b'.1.calls = subst (λ (z : PlainPending). TakesFirst c.self.inside.seen z.calls c.take_first.new.call c.take_first.new.pending.calls) before (c.take_first.ensures.first c.if-not-take_first.false) in (
      b',
      refl,
      box_acked key c.self.inside.seat.me c.take_box-outbox.new.seat.me (at_key c.self.inside.seat.me c.self.inside.seen key h (ap (λ s. s.me.0.opened) c.self.view_is ∙ c.requires.opened)) c.self.inside.seen c.args.worker c.take_first.new.call held.0 b b'
          h.seen_is c.requires.there held.1 held.2 refl (let e = ap (λ (p : PlainPending). p.room) before in let d = c.take_first.ensures.room in omega (arith, e, d)) takes,
    )

pub invariant_of-self-2 : goal.invariant_of-self-2
invariant_of-self-2 g c =
    let held = c.take_box-outbox.ensures.held in
    let knows : c.give_acked.new.seat.me ≡ (told_acked c.self.inside.seat.me.0 c.args.worker c.take_first.new.call, []) = c.give_acked.ensures.given ∙ ap (λ (m : Sat). (told_acked m.0 c.args.worker c.take_first.new.call, [])) held.1 in
    subst (λ (m : Sat). IsClerkSeat m c.self.inside.seen) (sym knows) (seat_acked c.self.inside.seat.me c.self.inside.seen c.args.worker c.take_first.new.call c.self.invariant)

pub give_back-requires-clause-same : goal.give_back-requires-clause-same
give_back-requires-clause-same g c =
    let h = c.self.invariant in
    let held = c.take_box-outbox.ensures.held in
    let before : c.deref_mut.result.now ≡ c.take_box-outbox.result.1.value = c.deref_mut.ensures.value in
    box_back c.args.desk.now.table.shared.key.value c.self.inside.seat.me c.take_box-outbox.new.seat.me (clerk_role h.origin.load) h.role c.args.worker (SHARDS + c.from.result) held.0 (part.Outbox c.take_box-outbox.result.0 (with_value c.take_box-outbox.result.1 c.take_first.new.pending))
    (c.take_box-outbox.result.0.value, c.take_box-outbox.result.1.value) (c.take_box-outbox.result.0.value, c.take_first.new.pending) h.roles c.requires.there (let e = c.from.ensures in omega (arith, e)) held.1 held.2 refl refl
    (c.take_first.ensures.unchanged c.if-not-take_first.true ∙ ap (λ (p : PlainPending). p.calls) before) (omega arith) (let e = ap (λ (p : PlainPending). p.room) before in let d = c.take_first.ensures.room in omega (arith, e, d))

pub returns-clause-acked : goal.returns-clause-acked
returns-clause-acked g c = λ told.
    let key : Plain = c.args.desk.now.table.shared.key.value in
    let held = c.take_box-outbox.ensures.held in
    let own = c.give_acked.ensures.own in
    let took = c.take_box-outbox.ensures.own in
    let before : c.deref_mut.result.now ≡ c.take_box-outbox.result.1.value = c.deref_mut.ensures.value in
    let knows : c.give_acked.new.seat.me ≡ (told_acked c.self.inside.seat.me.0 c.args.worker c.take_first.new.call, []) = c.give_acked.ensures.given ∙ ap (λ (m : Sat). (told_acked m.0 c.args.worker c.take_first.new.call, [])) held.1 in
    let s : PlainClerkSeat = record { table_id = c.self.inside.seat.table_id; id = c.self.inside.seat.id; me = c.self.inside.seat.me; seen = c.self.inside.seen } in
    let s' : PlainClerkSeat = record { table_id = c.give_acked.new.seat.table_id; id = c.give_acked.new.seat.id; me = c.give_acked.new.seat.me; seen = c.self.inside.seen } in
    let all : AcksFirst key s c.args.worker c.take_first.new.call s' = record {
      part_taken = held.0;
      agrees = held.3;
      before = (c.take_box-outbox.result.0.value, c.take_box-outbox.result.1.value);
      was = held.2;
      left = c.take_first.new.pending.calls;
      takes = subst (λ (z : PlainPending). TakesFirst c.self.inside.seen z.calls c.take_first.new.call c.take_first.new.pending.calls) before (c.take_first.ensures.first c.if-not-take_first.false);
      after = λ i. record s { table_id = (own.0 ∙ took.0) i; id = (own.1 ∙ took.1) i; me = knows i };
    } in
    subst (λ (z : PlainClerkSeat). AcksFirst key z c.args.worker c.take_first.new.call s') c.self.view_is all
