use Rattle.std.proofs.Common.{◌≤◌, ℕ, refl, subst, sym, ap, ◌∙◌}
use Rattle.tau_ack.specs.Pending.{PlainPending}
use Rattle.tau_outbox.specs.Pieces.{PlainOutbox}
use Rattle.tau_core.specs.State.{Plain}
use Rattle.tau_rule.specs.Boxes.{BoxOf}
use Rattle.tau_desk.proofs.Finishing.{own_rooms}
use Rattle.tau_desk.proofs.work.make_room.Goals as goal

pub more_records-room-requires : goal.more_records-room-requires
more_records-room-requires g c =
    let origin : Plain = c.args.desk.now.table.shared.key.value in
    let held = c.take_own_outbox-outbox.ensures.held in
    let b : BoxOf = (c.take_own_outbox-outbox.result.0.value, c.take_own_outbox-outbox.result.1.value) in
    let role = c.requires.role in
    let rooms = own_rooms origin c.args.worker c.args.seat.now.me role.0 role.1.0 held.0 b held.3 held.2 in
    let records : c.args.room.now.records ≤ b.0.room = subst (λ (z : ℕ × ℕ). z.0 ≤ b.0.room) role.1.1 rooms.0 in
    let calls : c.args.room.now.calls ≤ b.1.room = subst (λ (z : ℕ × ℕ). z.1 ≤ b.1.room) role.1.1 rooms.1 in
    subst (λ (o : PlainOutbox). c.args.room.now.records ≤ o.room) (sym c.deref_mut.ensures.value) records

pub more_calls-room-requires : goal.more_calls-room-requires
more_calls-room-requires g c =
    let origin : Plain = c.args.desk.now.table.shared.key.value in
    let held = c.take_own_outbox-outbox.ensures.held in
    let b : BoxOf = (c.take_own_outbox-outbox.result.0.value, c.take_own_outbox-outbox.result.1.value) in
    let role = c.requires.role in
    let rooms = own_rooms origin c.args.worker c.args.seat.now.me role.0 role.1.0 held.0 b held.3 held.2 in
    let records : c.args.room.now.records ≤ b.0.room = subst (λ (z : ℕ × ℕ). z.0 ≤ b.0.room) role.1.1 rooms.0 in
    let calls : c.args.room.now.calls ≤ b.1.room = subst (λ (z : ℕ × ℕ). z.1 ≤ b.1.room) role.1.1 rooms.1 in
    subst (λ (o : PlainPending). c.args.room.now.calls ≤ o.room) (sym c.deref_mut-2.ensures.value) calls

pub give_room-requires-clause-event : goal.give_room-requires-clause-event
give_room-requires-clause-event g c =
    let origin : Plain = c.args.desk.now.table.shared.key.value in
    let held = c.take_own_outbox-outbox.ensures.held in
    let b : BoxOf = (c.take_own_outbox-outbox.result.0.value, c.take_own_outbox-outbox.result.1.value) in
    let role = c.requires.role in
    let rooms = own_rooms origin c.args.worker c.args.seat.now.me role.0 role.1.0 held.0 b held.3 held.2 in
    let records : c.args.room.now.records ≤ b.0.room = subst (λ (z : ℕ × ℕ). z.0 ≤ b.0.room) role.1.1 rooms.0 in
    let calls : c.args.room.now.calls ≤ b.1.room = subst (λ (z : ℕ × ℕ). z.1 ≤ b.1.room) role.1.1 rooms.1 in
    let b' : BoxOf = (c.more_records-room.new.outbox, c.more_calls-room.new.pending) in (
      b',
      refl,
      record {
        taken = held.0;
        role = role.0;
        before = b;
        held = ap (λ m. m.0.hand) held.1;
        carried = ap (λ m. m.1) held.1;
        roles = ap (λ m. m.0.roles) held.1 ∙ role.1.0.roles;
        was = held.2;
        pieces = c.more_records-room.ensures.pieces ∙ ap (λ (o : PlainOutbox). o.pieces) c.deref_mut.ensures.value;
        pending = c.more_calls-room.ensures.calls ∙ ap (λ (o : PlainPending). o.calls) c.deref_mut-2.ensures.value;
        records = c.more_records-room.ensures.there;
        calls = c.more_calls-room.ensures.there;
      },
    )
