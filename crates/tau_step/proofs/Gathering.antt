-- A Gather in the turn of a manager.
use Rattle.std.proofs.Common.{ℕ, ◌+◌, ◌<◌, ◌≡◌, inl, inr, Bool, true, false, List, [], ◌∷◌, ◌++◌, length, refl, sym, ap, subst, ◌∙◌, append_assoc, arith, lt-ltb}
use Rattle.std.specs.Prelude.{Some, is_none, ◌&&◌, nat_lt, slice_get, slice_index, Result, Ok, Err}
use Rattle.tau_base.specs.Modes.{format_of}
use Rattle.tau_base.specs.declared.value.NoMemory.{NoMemory}
use Rattle.tau_disk.proofs.Passing.{passes_none}
use Rattle.std.proofs.lemmas.List.{append-nil}
use Rattle.std.proofs.lemmas.Bool.{cases_lt}
use Rattle.tau_base.specs.declared.limits.TheConstants.{MAX_BODY}
use Rattle.tau_block.specs.Image.{HasContent}
use Rattle.tau_disk.specs.Disk.{Passes}
use Rattle.tau_disk.specs.declared.disk.Disk.{Ghosts}
use Rattle.tau_stream.specs.declared.writer.Writer.{Writer}
use Rattle.tau_stream.specs.Writer.{disk_of, has_failed, IsReady}
use Rattle.tau_model.specs.History.{Act}
use Rattle.tau_machine.specs.Hands.{Txn}
use Rattle.tau_shard.specs.Shard.{at}
use Rattle.tau_machine.specs.State.{Setting, Core, Stream, Item, past_of}
use Rattle.tau_machine.specs.Events as machine
use Rattle.tau_machine.specs.Waits.{IsGathered, Waits}
use Rattle.tau_machine.specs.Events.{Gathered, stop, record_first, anchor_first}
use Rattle.tau_shard.proofs.At.{at_same}
use Rattle.tau_outbox.specs.declared.Piece.{Piece}
use Rattle.tau_outbox.specs.Gather.{Stops}
use Rattle.tau_core.specs.declared.state.Load.{Load}
use Rattle.tau_core.specs.Plain.{PlainStream}
use Rattle.tau_core.specs.State.{Plain}
use Rattle.tau_core.specs.View.{Hidden, setting_of, stop_in, core_of}
use Rattle.tau_core.specs.Stands.{Stands, anchors_at}
use Rattle.tau_core.specs.Pieces.{IsPieceOf, Paired, Spelled}
use Rattle.tau_core.specs.Gather as core
use Rattle.tau_core.specs.declared.event.Event.TheVariants as event
use Rattle.tau_core.specs.declared.event.Outcome.{Outcome}
use Rattle.tau_core.specs.declared.event.Outcome.TheVariants as outcome
use Rattle.tau_core.specs.Steps.{Steps, Happened, Unmoved}
use Rattle.tau_run.specs.Turns.{Progress, Stays, Gathers, Flushed, is_going}
use Rattle.tau_run.specs.StopsLeave.{HasFront, HasSomeFront}
use Rattle.tau_step.specs.declared.manager.Managing.{Managing}
use Rattle.tau_step.specs.declared.manager.Managing.TheVariants as did
use Rattle.tau_step.specs.Progressed.{progress}
use Rattle.tau_step.specs.Counts.{HasFlushed, MayHalve, flushes_by}
use Rattle.tau_step.specs.Keeping.{IsCurrent, IsBroken, IsKept, IsFilled, ManagerTurns, ManagerStops, ManagerTurned, GatheredTurns, GatheredStops, GatheredTurned}
use Rattle.tau_step.proofs.Counted.{flushed_none, half_by, half_none}
use Rattle.tau_base.proofs.Logic.{not_both}
use Rattle.tau_step.proofs.Deciding.{if_so, if_not}
use Rattle.tau_step.proofs.Images.{settled_has}
use Rattle.tau_step.proofs.Bodies.{spelled_long, body_long}
use Rattle.tau_step.proofs.Flushing.{kept_at, spelled_kept, has_front}
use Rattle.tau_base.proofs.Lists.{some_at}

-- a Gather adds to what was gathered of its stream, and leaves anchors, stops and persisted positions
pub record Grown (j : ℕ) (s s' : Core) : Type 0 where
  pub more : List Item
  pub moved : (s'.streams j).moved ≡ (s.streams j).moved ++ more
  pub anchors : ◌≡◌ {A = ℕ → List (List ℕ)} (λ (i : ℕ). (s'.streams i).anchors) (λ (i : ℕ). (s.streams i).anchors)
  pub stops : (s'.streams j).stop ≡ (s.streams j).stop
  pub plv : s'.plv ≡ s.plv

grown_by : (j : ℕ) (s m s' : Core) (x : Stream) (item : Item) → m.streams ≡ at j x s.streams → x.moved ≡ (s.streams j).moved ++ item ∷ [] → x.anchors ≡ (s.streams j).anchors → x.stop ≡ (s.streams j).stop → m.plv ≡ s.plv →
    Grown j m s' → Grown j s s'
grown_by j s m s' x item streams moved anchors stops plv g = record {
  more = item ∷ g.more;
  moved = g.moved ∙ ap (λ (l : List Item). l ++ g.more) (ap (λ (f : ℕ → Stream). (f j).moved) streams ∙ ap (λ (o : Stream). o.moved) (at_same j x s.streams) ∙ moved)
      ∙ append_assoc (s.streams j).moved (item ∷ []) g.more;
  anchors = g.anchors ∙ ap {B = ℕ → List (List ℕ)} (λ (f : ℕ → Stream) (i : ℕ). (f i).anchors) streams ∙ kept_at (λ (o : Stream). o.anchors) j x s.streams anchors;
  stops = g.stops ∙ ap (λ (f : ℕ → Stream). (f j).stop) streams ∙ ap (λ (o : Stream). o.stop) (at_same j x s.streams) ∙ stops;
  plv = g.plv ∙ plv;
}

pub gathered_grown : (set : Setting) (j : ℕ) (s s' : Core) → Gathered set j s s' → Grown j s s'
gathered_grown set j s _ stop = record { more = []; moved = sym (append-nil (s.streams j).moved); anchors = refl; stops = refl; plv = refl }
gathered_grown set j s s' (record_first {m = m} w q rest) =
    grown_by j s m s' (record (s.streams j) { moved = (s.streams j).moved ++ q.item ∷ [] }) q.item (ap (λ (c : Core). c.streams) q.after) refl refl refl (ap (λ (c : Core). c.plv) q.after) (gathered_grown set j m s' rest)
gathered_grown set j s s' (anchor_first {m = m} q rest) =
    grown_by j s m s' (record (s.streams j) { posted = q.others; moved = (s.streams j).moved ++ q.item ∷ [] }) q.item (ap (λ (c : Core). c.streams) q.after) refl refl refl (ap (λ (c : Core). c.plv) q.after) (gathered_grown set j m s' rest)

-- pieces that may not be gathered are those of items that wait
waits_items : (l : Load) (anchors : ℕ → List (List ℕ)) (s : Core) (j used : ℕ) (pieces : List Piece) (items : List Item) → slice_index s.plv j + used ≡ slice_index s.gathered j →
    Stops (slice_index s.gathered j) used pieces → Paired (IsPieceOf l anchors) pieces items → Waits s j items
waits_items l anchors s j used pieces [] e st q = tt
waits_items l anchors s j used [] (i ∷ is) e st q = absurd q
waits_items l anchors s j used (p ∷ ps) (i ∷ is) e st q = λ here.
    let start : p.start ≡ slice_index s.gathered j = q.0.start ∙ here in
    let past = q.0.past in
    elim (cases_lt (slice_index s.plv j + MAX_BODY) (past_of i)) [
      | inl lt ↦ lt
      | inr le ↦ absurd (st start (let most : ℕ = MAX_BODY in omega arith))
    ]

module _ (p : Plain) (K : List (Act Txn)) (h : Hidden) (g : Stands p K h) (j : ℕ) (there : j < p.load.streams) (long : slice_index p.load.opening.ends j + length (h.taken j) ≡ slice_index p.plv j) where
  used_is : (s : PlainStream) → slice_get p.streams j ≡ Some s → slice_index p.plv j + length s.body ≡ slice_index p.gathered j
  used_is s is = (let e = body_long p K h g j there s is in omega arith)

  pub nothing_waits : core.AllGathered j p → IsGathered (setting_of p.load) p.load.workers j (core_of p h)
  nothing_waits q =
      let (s, is) = some_at p.streams j (let e = g.sound.streams in omega arith) in
      record {
        near = (let most : ℕ = MAX_BODY in let used = used_is s is in let small = (g.sound.wide j s is).1 in omega (arith, used, small));
        own = waits_items p.load (anchors_at p) (core_of p h) j (length s.body) s.own.pieces (h.own j) (used_is s is) (q.own s is s is) (g.own j s is);
        posted = λ w lt whose.
            let (t, at) = some_at p.seats w (let e = g.sound.seats in omega arith) in
            waits_items p.load (anchors_at p) (core_of p h) j (length s.body) t.outbox.pieces (h.posted w) (used_is s is) (q.posted w t whose at s is) (g.posted w t at);
      }

module _ {D : Type 0} {G : Ghosts D} (j : ℕ) (catalogue : List ℕ) (w : Writer D G) (p m : Plain) (told : List (ℕ × List ℕ)) (K : List (Act Txn)) (h : Hidden) (es : List machine.Event)
    (g : Stands p K h) (there : j < p.load.streams) (size : length catalogue ≡ slice_index p.load.opening.ends j) (l : IsCurrent j catalogue w p h) (q : Happened (machine.Gather j) p m K h) where
  grown : Grown j (core_of p h) (core_of m q.hidden)
  grown = gathered_grown (setting_of p.load) j (core_of p h) (core_of m q.hidden) q.leads.0

  plv_same : slice_index m.plv j ≡ slice_index p.plv j
  plv_same = ap (λ (v : List ℕ). slice_index v j) grown.plv

  taken_same : q.hidden.taken j ≡ h.taken j
  taken_same = ap (λ (t : ℕ → List ℕ). t j) q.taken

  long_before : slice_index p.load.opening.ends j + length (h.taken j) ≡ slice_index p.plv j
  long_before =
      spelled_long p.load (anchors_at p) (slice_index p.load.opening.ends j) (slice_index p.gathered j) (h.moved j) (h.taken j) (g.inv.agrees.pieces.stream j there).moved l.spelled ∙ l.gathered

  long_behind : slice_index m.load.opening.ends j + length (q.hidden.taken j) ≡ slice_index m.plv j
  long_behind = ap (λ (d : Load). slice_index d.opening.ends j + length (q.hidden.taken j)) q.load ∙ ap (λ (b : List ℕ). slice_index p.load.opening.ends j + length b) taken_same ∙ long_before ∙ sym plv_same

  front_spelled : Spelled m.load (anchors_at m) (h.moved j) (h.taken j)
  front_spelled = spelled_kept p m (h.moved j) (h.taken j) q.load grown.anchors l.spelled

  pub filled : (upto : ℕ) → upto ≡ slice_index m.gathered j → IsFilled j catalogue upto w m q.hidden
  filled upto is = record {
    works = l.works;
    going = grown.stops ∙ l.going;
    gathered = is;
    durable = l.durable ∙ sym plv_same;
    left = l.left;
    before = h.moved j;
    others = grown.more;
    is = grown.moved;
    spelled = subst (λ (b : List ℕ). Spelled m.load (anchors_at m) (h.moved j) b) (sym taken_same) front_spelled;
    long = long_behind;
    ready = λ tells. subst (λ (d : Load). IsReady (format_of d.mode) d.streams j w (catalogue ++ q.hidden.taken j)) (sym q.load)
        (subst (λ (b : List ℕ). IsReady (format_of p.load.mode) p.load.streams j w (catalogue ++ b)) (sym taken_same) (l.ready tells));
  }

  there_behind : j < m.load.streams
  there_behind = subst (λ (d : Load). j < d.streams) (sym q.load) there

  going_now : is_going (setting_of p.load) p.load.workers p.load.streams (core_of p h) j ≡ true
  going_now = both (nat_lt j p.load.streams) (is_none (stop_in (slice_get p.streams j))) (lt-ltb j p.load.streams there) (ap is_none l.going)
    where
      both : (a b : Bool) → a ≡ true → b ≡ true → (a && b) ≡ true
      both false b e f = e
      both true b e f = f

  abbrev before_now : Progress
  before_now = progress p h es K told

  abbrev behind_now : Progress
  behind_now = progress m q.hidden (es ++ machine.Gather j ∷ []) (K ++ q.joined) told

  gathers : core.AllGathered j m → Gathers (setting_of p.load) p.load.workers p.load.streams j before_now behind_now
  gathers all = (
    record { new = q.joined; leads = q.leads; events = refl; joined = refl; told = refl },
    subst (λ (d : Load). IsGathered (setting_of d) d.workers j (core_of m q.hidden)) q.load (nothing_waits m (K ++ q.joined) q.hidden q.stands j there_behind long_behind all),
  )

  module _ (p' : Plain) (w' : Writer D G) (all : core.AllGathered j m) where
    pub manager_turns : (a : Managing) → GatheredTurns j catalogue w w' m p' told (K ++ q.joined) q.hidden (es ++ machine.Gather j ∷ []) a → ManagerTurns j catalogue w w' p p' told K h es a
    manager_turns a t =
        let P' = progress p' t.hidden t.events t.order told in
        record {
          hidden = t.hidden;
          order = t.order;
          events = t.events;
          stands = t.stands;
          load = t.load ∙ q.load;
          taken = λ i ne. t.taken i ne ∙ ap (λ (f : ℕ → List ℕ). f i) q.taken;
          moved = if_so (is_going (setting_of p.load) p.load.workers p.load.streams (core_of p h) j)
              ((x : Progress) × Gathers (setting_of p.load) p.load.workers p.load.streams j before_now x × Flushed (setting_of p.load) p.load.workers p.load.streams j x P') (Stays before_now P') going_now
              (behind_now, gathers all, subst (λ (d : Load). Flushed (setting_of d) d.workers d.streams j behind_now P') q.load t.moved);
          kept = t.kept;
          passes = λ tells. subst (λ (d : Load). Passes G.moment G.may_leave_since (disk_of w) (disk_of w') (HasSomeFront d.streams j catalogue d (core_of p' t.hidden))) q.load (t.passes tells);
          faults = t.faults;
          flushed = λ e. let f = t.flushed e in (l.works, f.0, subst (λ (n : ℕ). n < slice_index p'.plv j) plv_same f.1);
          failed = λ e. let f = t.failed e in (l.works, f.0, f.1);
          idle = λ e. let f = t.idle e in (f.0 ∙ sym l.works, f.1 ∙ plv_same);
          goes = t.goes;
          stops = λ e f. t.stops f;
          still = λ e. absurd (let bad : true ≡ false = sym e ∙ l.works in cc);
          calls = λ tells. subst (λ (b : Bool). HasFlushed G (flushes_by a) b (has_failed w') (disk_of w) (disk_of w')) (sym l.works) (t.calls tells);
          half = λ tells. subst (λ (d : Load). MayHalve d j (flushes_by a) (has_failed w) (disk_of w) w') q.load (half_by m.load j false (has_failed w) (flushes_by a) (disk_of w) w' (sym l.works) (t.half tells));
        }

    pub manager_stops : GatheredStops j catalogue w w' m p' told (K ++ q.joined) q.hidden (es ++ machine.Gather j ∷ []) → ManagerStops j catalogue w w' p p' told K h es
    manager_stops t =
        let P' = progress p' t.hidden (es ++ machine.Gather j ∷ []) (K ++ q.joined) told in
        let same : P' ≡ behind_now = ap (λ (c : Core). record { state = c; events = es ++ machine.Gather j ∷ []; joined = K ++ q.joined; told = told }) t.same in
        record {
          hidden = t.hidden;
          order = K ++ q.joined;
          events = es ++ machine.Gather j ∷ [];
          stands = t.stands;
          load = t.load ∙ q.load;
          moved = inr (if_so (is_going (setting_of p.load) p.load.workers p.load.streams (core_of p h) j) (Gathers (setting_of p.load) p.load.workers p.load.streams j before_now P') (Stays before_now P') going_now
              (subst (λ (x : Progress). Gathers (setting_of p.load) p.load.workers p.load.streams j before_now x) (sym same) (gathers all)));
          worked = l.works;
          disk = t.disk;
          works = t.works;
          present = λ works tells x left. front_now t x (settled_has (format_of p.load.mode) p.load.streams j (G.seen (disk_of w)) (G.may_leave (disk_of w)) w.gate_at (catalogue ++ h.taken j) (l.ready tells).settled x left);
        }
      where
        front_now : (t : GatheredStops j catalogue w w' m p' told (K ++ q.joined) q.hidden (es ++ machine.Gather j ∷ [])) (x : List ℕ) → HasContent (format_of p.load.mode) p.load.streams j (catalogue ++ h.taken j) x →
            (bytes : List ℕ) × HasFront p.load.streams j catalogue p.load (core_of p' t.hidden) bytes x × (slice_index p'.plv j ≡ length catalogue + length bytes)
        front_now t x has = (
          h.taken j,
          subst (λ (c : Core). HasFront p.load.streams j catalogue p.load c (h.taken j) x) (sym t.same)
              (subst (λ (d : Load). HasFront p.load.streams j catalogue d (core_of m q.hidden) (h.taken j) x) q.load
              (has_front p.load.streams j catalogue m q.hidden (h.moved j) grown.more (h.taken j) x grown.moved front_spelled
              (subst (λ (d : Load). HasContent (format_of d.mode) p.load.streams j (catalogue ++ h.taken j) x) (sym q.load) has))),
          ap (λ (c : Core). slice_index c.plv j) t.same ∙ plv_same ∙ sym long_before ∙ ap (λ (n : ℕ). n + length (h.taken j)) (sym size),
        )

    -- by the answer of the flush
    pub manager_turned : (r : Result Managing NoMemory) → GatheredTurned j catalogue w w' m p' told (K ++ q.joined) q.hidden (es ++ machine.Gather j ∷ []) r → ManagerTurned j catalogue w w' p p' told K h es r
    manager_turned (Ok a) t = manager_turns a t
    manager_turned (Err e) t = manager_stops t

-- a writer whose disk has not failed is current, and one whose disk has is broken
pub is_current : {D : Type 0} {G : Ghosts D} (j : ℕ) (catalogue : List ℕ) (w : Writer D G) (p : Plain) (h : Hidden) → has_failed w ≡ false → IsKept j catalogue w p h → IsCurrent j catalogue w p h
is_current j catalogue w p h works (inl l) = l
is_current j catalogue w p h works (inr b) = absurd (let bad : true ≡ false = sym b.fails ∙ works in cc)

pub is_broken : {D : Type 0} {G : Ghosts D} (j : ℕ) (catalogue : List ℕ) (w : Writer D G) (p : Plain) (h : Hidden) → has_failed w ≡ true → IsKept j catalogue w p h → IsBroken j catalogue w p h
is_broken j catalogue w p h fails (inl l) = absurd (let bad : true ≡ false = sym fails ∙ l.works in cc)
is_broken j catalogue w p h fails (inr b) = b

-- a disk that has failed is used no more
pub manager_idle : {D : Type 0} {G : Ghosts D} (j : ℕ) (catalogue : List ℕ) (w : Writer D G) (p : Plain) (told : List (ℕ × List ℕ)) (K : List (Act Txn)) (h : Hidden) (es : List machine.Event) → Stands p K h →
    IsBroken j catalogue w p h → ManagerTurns j catalogue w w p p told K h es did.Idle
manager_idle {D} {G} j catalogue w p told K h es g b =
    let P = progress p h es K told in
    record {
      hidden = h;
      order = K;
      events = es;
      stands = g;
      load = refl;
      taken = λ i ne. refl;
      moved = if_not (is_going (setting_of p.load) p.load.workers p.load.streams (core_of p h) j)
          ((x : Progress) × Gathers (setting_of p.load) p.load.workers p.load.streams j P x × Flushed (setting_of p.load) p.load.workers p.load.streams j x P) (Stays P P)
          (second (nat_lt j p.load.streams) (is_none (stop_in (slice_get p.streams j))) (ap is_none b.stop)) refl;
      kept = inr b;
      passes = λ tells. passes_none G.moment G.may_leave_since (disk_of w) (HasSomeFront p.load.streams j catalogue p.load (core_of p h));
      faults = omega arith;
      flushed = λ e. absurd (let bad : did.Idle ≡ did.Flushed = e in cc);
      failed = λ e. absurd (let bad : did.Idle ≡ did.Failed = e in cc);
      idle = λ e. (refl, refl);
      goes = λ e. absurd (let bad : true ≡ false = sym b.fails ∙ e in cc);
      stops = λ e. absurd (let bad : true ≡ false = sym b.fails ∙ e in cc);
      still = λ e. refl;
      calls = λ tells. flushed_none G (has_failed w) (has_failed w) (disk_of w) (not_both (has_failed w));
      half = λ tells. half_none p.load j 0 (has_failed w) (disk_of w) w (not_both (has_failed w));
    }
  where
    second : (a b : Bool) → b ≡ false → (a && b) ≡ false
    second false b e = refl
    second true b e = e

-- lack of memory before anything was gathered
pub manager_short : {D : Type 0} {G : Ghosts D} (j : ℕ) (catalogue : List ℕ) (w : Writer D G) (p p' : Plain) (told : List (ℕ × List ℕ)) (K : List (Act Txn)) (h : Hidden) (es : List machine.Event) → Stands p K h → j < p.load.streams →
    length catalogue ≡ slice_index p.load.opening.ends j → IsCurrent j catalogue w p h → Unmoved p p' K h → ManagerStops j catalogue w w p p' told K h es
manager_short {D} {G} j catalogue w p p' told K h es g there size l u = record {
  hidden = u.hidden;
  order = K;
  events = es;
  stands = u.stands;
  load = u.load;
  moved = inl (ap (λ (c : Core). record { state = c; events = es; joined = K; told = told }) u.same);
  worked = l.works;
  disk = refl;
  works = refl;
  present = λ works tells x left. (
    h.taken j,
    subst (λ (c : Core). HasFront p.load.streams j catalogue p.load c (h.taken j) x) (sym u.same)
        (has_front p.load.streams j catalogue p h (h.moved j) [] (h.taken j) x (sym (append-nil (h.moved j))) l.spelled
        (settled_has (format_of p.load.mode) p.load.streams j (G.seen (disk_of w)) (G.may_leave (disk_of w)) w.gate_at (catalogue ++ h.taken j) (l.ready tells).settled x left)),
    (let long = spelled_long p.load (anchors_at p) (slice_index p.load.opening.ends j) (slice_index p.gathered j) (h.moved j) (h.taken j) (g.inv.agrees.pieces.stream j there).moved l.spelled in
        let same = ap (λ (c : Core). slice_index c.plv j) u.same in let e = l.gathered in omega arith),
  );
}

-- whatever the Gather answered, the turn may end there
pub gather_short : {D : Type 0} {G : Ghosts D} (j : ℕ) (catalogue : List ℕ) (w : Writer D G) (p p' : Plain) (told : List (ℕ × List ℕ)) (K : List (Act Txn)) (h : Hidden) (es : List machine.Event) → Stands p K h → j < p.load.streams →
    length catalogue ≡ slice_index p.load.opening.ends j → IsCurrent j catalogue w p h → (o : Outcome) → Steps p p' K h (event.Gather j) o → ManagerStops j catalogue w w p p' told K h es
gather_short j catalogue w p p' told K h es g there size l outcome.Went t = absurd t
gather_short j catalogue w p p' told K h es g there size l (outcome.Granted value) t = absurd t
gather_short j catalogue w p p' told K h es g there size l (outcome.Busy holder) t = absurd t
gather_short j catalogue w p p' told K h es g there size l (outcome.Placed start) t = absurd t
gather_short j catalogue w p p' told K h es g there size l (outcome.Gathered upto) t =
    manager_stops j catalogue w p p' told K h es g there size l t.0 p' w t.2
    (record { hidden = t.0.hidden; same = refl; stands = t.0.stands; load = refl; disk = refl; works = refl })
gather_short j catalogue w p p' told K h es g there size l (outcome.Acked number lv) t = absurd t
gather_short j catalogue w p p' told K h es g there size l outcome.NothingCovered t = absurd t
gather_short j catalogue w p p' told K h es g there size l (outcome.NotNow phase) t = manager_short j catalogue w p p' told K h es g there size l t.0
gather_short j catalogue w p p' told K h es g there size l outcome.NoMemory t = manager_short j catalogue w p p' told K h es g there size l t
