-- What the parts do is the event of the machine.
use Rattle.std.proofs.Common.{ℕ, ◌<◌, ◌≡◌, List, [], ◌∷◌, ◌++◌, refl, sym, ap, subst, ◌∙◌, arith}
use Rattle.std.specs.Prelude.{Some}
use Rattle.std.proofs.lemmas.List.{append-nil}
use Rattle.tau_model.specs.History.{Act}
use Rattle.tau_machine.specs.Hands.{Txn}
use Rattle.tau_shard.specs.Shard.{at}
use Rattle.tau_machine.specs.Events as machine
use Rattle.tau_machine.specs.Events.{Leads, ready}
use Rattle.tau_ack.specs.Pending.{NoneCovered, TakesFirst}
use Rattle.tau_core.specs.declared.event.Phase.TheVariants.{Stopped}
use Rattle.tau_core.specs.declared.event.Outcome.{Outcome}
use Rattle.tau_core.specs.declared.event.Outcome.TheVariants as outcome
use Rattle.tau_core.specs.Plain.{PlainSeat}
use Rattle.tau_core.specs.State.{Plain}
use Rattle.tau_core.specs.View.{setting_of, Hidden, core_of}
use Rattle.tau_core.specs.Stands.{Stands}
use Rattle.tau_core.specs.Steps.{Happened, Unmoved, DropSteps, GatherSteps, AnchorSteps, PersistSteps, StopSteps, AckSteps, IsFirstCovered}
use Rattle.tau_core.specs.Managers.{Persisted, StoppedBy}
use Rattle.tau_core.specs.Clerk.{Swept, AckedBy}
use Rattle.tau_core.specs.Begins.{RoomMade}
use Rattle.tau_core.proofs.Starts.{room_core, room_stands}
use Rattle.tau_core.specs.Gather.{Gathered}
use Rattle.tau_core.specs.Anchors.{Anchored}
use Rattle.tau_core.proofs.Lists.{got_same}
use Rattle.std.proofs.lemmas.Option.{slice_get_within}
use Rattle.tau_core.proofs.PersistLeads.{persist_leads, persist_stands, stop_leads, stop_stands, stopped}
use Rattle.tau_core.proofs.Clerk.{swept, sweep_leads, sweep_stands, less, acked, ack_leads, ack_stands}
use Rattle.tau_core.proofs.GathersOn.{gathers_on}
use Rattle.tau_core.proofs.Anchors.{anchored, anchor_hidden, anchor_leads, anchor_stands, reserved_core, reserved_stands}
use Rattle.tau_base.proofs.Lists.{some_at}

-- an event by which no call commits
abbrev pub happened : (e : machine.Event) (p p' : Plain) (K : List (Act Txn)) (h h' : Hidden) → Leads (setting_of p.load) e (core_of p h) (core_of p' h') [] → Stands p' K h' → p'.load ≡ p.load → h'.taken ≡ h.taken → Happened e p p' K h
happened e p p' K h h' leads g load taken = record {
  hidden = h';
  joined = [];
  leads = leads;
  stands = subst (λ (l : List (Act Txn)). Stands p' l h') (sym (append-nil K)) g;
  load = load;
  taken = taken;
}

pub unmoved : (p p' : Plain) (K : List (Act Txn)) (h : Hidden) → Stands p K h → p' ≡ p → Unmoved p p' K h
unmoved p p' K h g e = record {
  hidden = h;
  taken = refl;
  same = ap (λ (x : Plain). core_of x h) e;
  stands = subst (λ (x : Plain). Stands x K h) (sym e) g;
  load = ap (λ (x : Plain). x.load) e;
}

module _ (p p' : Plain) (K : List (Act Txn)) (h : Hidden) (g : Stands p K h) where
  pub persist_steps : (j upto : ℕ) (o : Outcome) → j < p.load.streams → Persisted p j upto o p' → PersistSteps p p' K h j upto o
  persist_steps j upto outcome.Went there q =
      happened (machine.Persist j upto) p p' K h h (persist_leads p p' K h g j there upto q) (persist_stands p p' K h g j there upto q) (ap (λ (x : Plain). x.load) q.1) refl
  persist_steps j upto (outcome.NotNow phase) there q = (unmoved p p' K h g q.1, q.0)
  persist_steps j upto (outcome.Granted v) there q = absurd q
  persist_steps j upto (outcome.Busy u) there q = absurd q
  persist_steps j upto (outcome.Placed u) there q = absurd q
  persist_steps j upto (outcome.Gathered u) there q = absurd q
  persist_steps j upto (outcome.Acked n lv) there q = absurd q
  persist_steps j upto outcome.NothingCovered there q = absurd q
  persist_steps j upto outcome.NoMemory there q = absurd q

  pub stop_steps : (j position : ℕ) (o : Outcome) → j < p.load.streams → StoppedBy p j position o p' → StopSteps p p' K h j position o
  stop_steps j position outcome.Went there q =
      let found = some_at p.streams j (let e = g.sound.streams in omega arith) in
      let after = q.1 found.0 found.1 in
      subst (λ (x : Plain). Happened (machine.Stop j position) p x K h) (sym after)
      (happened (machine.Stop j position) p (stopped p p' K h g j there position found.0 found.1) K h h
      (stop_leads p p' K h g j there position found.0 found.1 q.0) (stop_stands p p' K h g j there position found.0 found.1 q.0) refl refl)
  stop_steps j position (outcome.NotNow phase) there q = (unmoved p p' K h g q.1, q.0)
  stop_steps j position (outcome.Granted v) there q = absurd q
  stop_steps j position (outcome.Busy u) there q = absurd q
  stop_steps j position (outcome.Placed u) there q = absurd q
  stop_steps j position (outcome.Gathered u) there q = absurd q
  stop_steps j position (outcome.Acked n lv) there q = absurd q
  stop_steps j position outcome.NothingCovered there q = absurd q
  stop_steps j position outcome.NoMemory there q = absurd q

  pub drop_steps : (i : ℕ) → Swept p i p' → DropSteps p p' K h i outcome.Went
  drop_steps i q = subst (λ (x : Plain). Happened (machine.Drop i p.plv) p x K h) (sym q.after)
      (happened (machine.Drop i p.plv) p (swept p K h g i q.shard q.left q.is q.dropped) K h h (sweep_leads p K h g i q.shard q.left q.is q.dropped) (sweep_stands p K h g i q.shard q.left q.is q.dropped) refl refl)

  pub gather_steps : (j : ℕ) (o : Outcome) → j < p.load.streams → Gathered p j o p' → GatherSteps p p' K h j o
  gather_steps j (outcome.Gathered upto) there q =
      let e = gathers_on j p p' q.1 K h g there q.0 in
      (happened (machine.Gather j) p p' K h e.hidden (e.leads, refl) e.stands e.load e.taken, q.2, q.3)
  gather_steps j outcome.NoMemory there q =
      let a = q.1 in
      subst (λ (x : Plain). Unmoved p x K h) (sym a.after)
      (record { hidden = h; taken = refl; same = reserved_core p K h g j there a.stream a.own a.room a.is a.pieces; stands = reserved_stands p K h g j there a.stream a.own a.room a.is a.pieces; load = refl })
  gather_steps j (outcome.NotNow (Stopped at)) there q = (unmoved p p' K h g q.1, q.0)
  gather_steps j (outcome.NotNow _) there q = absurd q
  gather_steps j outcome.Went there q = absurd q
  gather_steps j (outcome.Granted v) there q = absurd q
  gather_steps j (outcome.Busy u) there q = absurd q
  gather_steps j (outcome.Placed u) there q = absurd q
  gather_steps j (outcome.Acked n lv) there q = absurd q
  gather_steps j outcome.NothingCovered there q = absurd q

  pub anchor_steps : (j : ℕ) (o : Outcome) → j < p.load.streams → Anchored p j o p' → AnchorSteps p p' K h j o
  anchor_steps j (outcome.Placed start) there q =
      let a = q.1 in (
        subst (λ (x : Plain). Happened (machine.PlaceAnchor j p.plv) p x K h) (sym a.after)
            (happened (machine.PlaceAnchor j p.plv) p (anchored p K h g j there q.0 a.stream a.own a.bytes a.is a.pieces a.spelled a.few) K h
            (anchor_hidden p K h g j there q.0 a.stream a.own a.bytes a.is a.pieces a.spelled a.few)
            (anchor_leads p K h g j there q.0 a.stream a.own a.bytes a.is a.pieces a.spelled a.few)
            (anchor_stands p K h g j there q.0 a.stream a.own a.bytes a.is a.pieces a.spelled a.few) refl refl),
        q.2,
      )
  anchor_steps j outcome.NoMemory there q =
      let a = q.1 in
      subst (λ (x : Plain). Unmoved p x K h) (sym a.after)
      (record { hidden = h; taken = refl; same = reserved_core p K h g j there a.stream a.own a.room a.is a.pieces; stands = reserved_stands p K h g j there a.stream a.own a.room a.is a.pieces; load = refl })
  anchor_steps j (outcome.NotNow (Stopped at)) there q = (unmoved p p' K h g q.1, q.0)
  anchor_steps j (outcome.NotNow _) there q = absurd q
  anchor_steps j outcome.Went there q = absurd q
  anchor_steps j (outcome.Granted v) there q = absurd q
  anchor_steps j (outcome.Busy u) there q = absurd q
  anchor_steps j (outcome.Gathered u) there q = absurd q
  anchor_steps j (outcome.Acked n lv) there q = absurd q
  anchor_steps j outcome.NothingCovered there q = absurd q

  pub ack_steps : (w : ℕ) (o : Outcome) → AckedBy p w o p' → AckSteps p p' K h w o
  ack_steps w (outcome.Acked number lv) q =
      subst (λ (x : Plain). (y : Happened (machine.Ack w p.plv) p x K h) × (y.hidden.acked ≡ at w (h.acked w ++ record { number = number; lv = lv } ∷ []) h.acked) × IsFirstCovered p x w number lv) (sym q.0.after) (
        happened (machine.Ack w p.plv) p (less p K h g w p' q.0 (record { number = number; lv = lv }) q.1) K h (acked p K h g w p' q.0 (record { number = number; lv = lv }) q.1)
            (ack_leads p K h g w p' q.0 (record { number = number; lv = lv }) q.1) (ack_stands p K h g w p' q.0 (record { number = number; lv = lv }) q.1) refl refl,
        refl,
        λ s s' e e'.
            let waits : PlainSeat = record q.0.seat { pending = q.0.pending } in
            let first : q.0.seat ≡ s = (let f : Some q.0.seat ≡ Some s = sym q.0.is ∙ e in cc) in
            let then : waits ≡ s' = (let f : Some waits ≡ Some s' = sym (got_same p.seats w waits (slice_get_within p.seats w q.0.seat q.0.is)) ∙ e' in cc) in
            subst (λ (x : PlainSeat). TakesFirst p.plv x.pending.calls (record { number = number; lv = lv }) s'.pending.calls) first
            (subst (λ (x : PlainSeat). TakesFirst p.plv q.0.seat.pending.calls (record { number = number; lv = lv }) x.pending.calls) then q.1),
      )
  ack_steps w outcome.NothingCovered q =
      let room : RoomMade w p p' = record {
        seat = q.0.seat;
        pending = q.0.pending;
        left = q.0.seat.room;
        room = p.room;
        is = q.0.is;
        calls = q.2;
        pending_room = q.0.room;
        left_room = (omega arith);
        rooms = (omega arith);
        after = q.0.after;
      } in (
        record { hidden = h; taken = refl; same = room_core p p' K h g w room; stands = room_stands p p' K h g w room; load = ap (λ (x : Plain). x.load) q.0.after },
        λ s e. let same : q.0.seat ≡ s = (let f : Some q.0.seat ≡ Some s = sym q.0.is ∙ e in cc) in subst (λ (x : PlainSeat). NoneCovered p.plv x.pending.calls) same q.1,
      )
  ack_steps w outcome.Went q = absurd q
  ack_steps w (outcome.Granted v) q = absurd q
  ack_steps w (outcome.Busy u) q = absurd q
  ack_steps w (outcome.Placed u) q = absurd q
  ack_steps w (outcome.Gathered u) q = absurd q
  ack_steps w (outcome.NotNow _) q = absurd q
  ack_steps w outcome.NoMemory q = absurd q
