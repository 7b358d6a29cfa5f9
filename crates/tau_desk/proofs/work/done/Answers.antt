use Rattle.std.proofs.Common.{◌≡◌, ◌≤◌, Bool, List, [], ◌∷◌, ◌++◌, Some, None, refl, subst, sym, ap, ◌∙◌, arith}
use Rattle.tau_ack.specs.Pending.{PlainPending}
use Rattle.tau_proc.specs.declared.proc.Proc.{Proc}
use Rattle.tau_machine.specs.Events.{Done}
use Rattle.tau_machine.specs.Hands.{Freeing, lv_of}
use Rattle.tau_outbox.specs.Pieces.{PlainOutbox}
use Rattle.tau_txn.specs.declared.action.Action.{Action}
use Rattle.tau_txn.specs.Next.{Finishes, FreesBy, Means, next_action}
use Rattle.tau_txn.specs.Txn.{RunsBy}
use Rattle.tau_core.specs.State.{Plain}
use Rattle.tau_core.proofs.Hands.{some_hand}
use Rattle.tau_core.proofs.Joins.{number_freed}
use Rattle.tau_rule.specs.Boxes.{BoxOf}
use Rattle.tau_desk.proofs.Finishing.{box_rooms, dones}
use Rattle.tau_desk.proofs.Freeing.{was_begun}
use Rattle.tau_desk.proofs.work.done.Goals as goal
use Rattle.tau_core.proofs.ActionKinds.{done_kind}

pub lv_ref-requires : goal.lv_ref-requires
lv_ref-requires g c =
    let origin : Plain = c.args.desk.now.table.shared.key.value in
    let next = done_kind (next_action c.args.txn.now) c.requires.next in
    let means : Finishes origin.load.procs c.args.txn.now next.0 next.1 = subst (λ (a : Action). Means origin.load.procs c.args.txn.now a) next.2 (c.means.ensures origin.load.procs c.requires.ready.runs) in
    some_hand origin.load.procs c.args.txn.now means.hand means.is

pub put_from-requires : goal.put_from-requires
put_from-requires g c =
    let origin : Plain = c.args.desk.now.table.shared.key.value in
    let r = c.requires.ready in
    let held = c.take_outbox-outbox.ensures.held in
    let b : BoxOf = (c.take_outbox-outbox.result.0.value, c.take_outbox-outbox.result.1.value) in
    let rooms = box_rooms origin c.args.worker c.args.seat.now.me c.args.txn.now r held.0 b c.args.room.now.records c.args.room.now.calls held.3 held.2 c.requires.room.0 in
    let low = c.requires.room.1 in
    subst (λ (o : PlainPending). 1 ≤ o.room) (sym c.deref_mut.ensures.value) (omega (arith, rooms.1, low))

pub more_records-room-requires : goal.more_records-room-requires
more_records-room-requires g c =
    let origin : Plain = c.args.desk.now.table.shared.key.value in
    let r = c.requires.ready in
    let held = c.take_outbox-outbox.ensures.held in
    let b : BoxOf = (c.take_outbox-outbox.result.0.value, c.take_outbox-outbox.result.1.value) in
    let rooms = box_rooms origin c.args.worker c.args.seat.now.me c.args.txn.now r held.0 b c.args.room.now.records c.args.room.now.calls held.3 held.2 c.requires.room.0 in
    let low = c.requires.room.1 in
    subst (λ (o : PlainOutbox). c.args.room.now.records ≤ o.room) (sym c.deref_mut-2.ensures.value) rooms.0

pub more_calls-room-requires : goal.more_calls-room-requires
more_calls-room-requires g c =
    let origin : Plain = c.args.desk.now.table.shared.key.value in
    let r = c.requires.ready in
    let held = c.take_outbox-outbox.ensures.held in
    let b : BoxOf = (c.take_outbox-outbox.result.0.value, c.take_outbox-outbox.result.1.value) in
    let rooms = box_rooms origin c.args.worker c.args.seat.now.me c.args.txn.now r held.0 b c.args.room.now.records c.args.room.now.calls held.3 held.2 c.requires.room.0 in
    let low = c.requires.room.1 in
    let before = ap (λ (o : PlainPending). o.room) c.deref_mut.ensures.value in
    let after = ap (λ (o : PlainPending). o.room) c.deref_mut-3.ensures.value in
    let put = c.put_from.ensures.room in
    omega (arith, rooms.1, low, before, after, put)

pub give_outbox-requires-clause-event : goal.give_outbox-requires-clause-event
give_outbox-requires-clause-event g c =
    let origin : Plain = c.args.desk.now.table.shared.key.value in
    let r = c.requires.ready in
    let held = c.take_outbox-outbox.ensures.held in
    let b : BoxOf = (c.take_outbox-outbox.result.0.value, c.take_outbox-outbox.result.1.value) in
    let rooms = box_rooms origin c.args.worker c.args.seat.now.me c.args.txn.now r held.0 b c.args.room.now.records c.args.room.now.calls held.3 held.2 c.requires.room.0 in
    let low = c.requires.room.1 in
    let next = done_kind (next_action c.args.txn.now) c.requires.next in
    let means : Finishes origin.load.procs c.args.txn.now next.0 next.1 = subst (λ (a : Action). Means origin.load.procs c.args.txn.now a) next.2 (c.means.ensures origin.load.procs r.runs) in
    let empty : c.went.new.self.hand ≡ None = c.went.ensures.done next.0 next.1 next.2 in
    let phase : means.hand.phase ≡ Freeing means.act = subst (λ (j : Bool). FreesBy origin.load.procs j c.args.txn.now.worker means.hand means.act) c.requires.joined means.act_is in
    let begun = was_begun origin.load.streams r.worker means.hand means.act (r.agrees ∙ means.is) phase in
    let number : c.number_of.result ≡ means.act.call.call.number =
    (let e : Some c.number_of.result ≡ Some means.act.call.call.number = c.number_of.ensures ∙ number_freed origin.load.procs c.args.txn.now means.hand means.act means.is phase in cc) in
    let lv : c.lv_ref.result.now ≡ lv_of means.act = c.lv_ref.ensures.frees origin.load.procs means.hand means.act r.runs means.is means.act_is in
    let b' : BoxOf = (c.more_records-room.new.outbox, c.more_calls-room.new.pending) in (
      Done c.args.worker,
      (
        b',
        refl,
        record {
          taken = held.0;
          role = r.role;
          worker = r.worker;
          before = b;
          held = ap (λ m. m.0.hand) held.1;
          carried = ap (λ m. m.1) held.1;
          roles = ap (λ m. m.0.roles) held.1 ∙ r.seat.roles;
          share = r.share;
          was = held.2;
          there = r.there;
          records = c.more_records-room.ensures.there;
          calls = c.more_calls-room.ensures.there;
          none = tt;
          steps = dones origin c.take_outbox-outbox.new.seat.me.0 c.args.worker r.worker c.went.new.self means.hand means.act b b' c.number_of.result c.lv_ref.result.now begun.0 begun.1 phase means.held empty
              (c.more_records-room.ensures.pieces ∙ ap (λ (o : PlainOutbox). o.pieces) c.deref_mut-2.ensures.value)
              (c.more_calls-room.ensures.calls ∙ ap (λ (o : PlainPending). o.calls) c.deref_mut-3.ensures.value ∙ c.put_from.ensures.calls ∙ ap (λ (o : PlainPending). o.calls ++ record { number = c.number_of.result; lv = c.lv_ref.result.now } ∷ []) c.deref_mut.ensures.value)
              (λ i. record { number = number i; lv = lv i });
        },
      ),
    )

pub returns-clause-call : goal.returns-clause-call
returns-clause-call g c =
    let origin : Plain = c.args.desk.now.table.shared.key.value in
    let r = c.requires.ready in
    let next = done_kind (next_action c.args.txn.now) c.requires.next in
    let means : Finishes origin.load.procs c.args.txn.now next.0 next.1 = subst (λ (a : Action). Means origin.load.procs c.args.txn.now a) next.2 (c.means.ensures origin.load.procs r.runs) in
    let empty : c.went.new.self.hand ≡ None = c.went.ensures.done next.0 next.1 next.2 in
    record {
      reply = next.0;
      lv = next.1;
      next = next.2;
      ends = means;
      gone = empty;
      worker = record { runs = subst (λ (p : List Proc). RunsBy p c.went.new.self) c.requires.procs c.went.ensures.runs; same = c.went.ensures.same; stays = c.went.ensures.stays };
    }
