-- What a run in threads has at its end is what a run by turns has at its end.
use Rattle.std.proofs.Common.{ℕ, ◌<◌, ◌≡◌, Bool, true, false, List, ◌++◌, map, length, take, refl, sym, ap, subst, ◌∙◌, arith, slice_index}
use Rattle.std.specs.Prelude.{Option, Some, None, slice_get}
use Rattle.tau_base.specs.Modes.{format_of}
use Rattle.tau_disk.proofs.Passing.{passes_weaker}
use Rattle.tau_disk.specs.declared.disk.Disk.{Ghosts}
use Rattle.tau_outbox.specs.declared.Piece.{Piece}
use Rattle.tau_outbox.specs.Pieces.{bytes_of}
use Rattle.tau_stream.specs.declared.writer.Writer.{Writer}
use Rattle.tau_stream.specs.Writer.{disk_of, durable_of, has_failed}
use Rattle.tau_model.specs.History.{Act}
use Rattle.tau_machine.specs.Hands.{Txn}
use Rattle.tau_machine.specs.State.{Core, Item}
use Rattle.tau_machine.specs.Events.{Event}
use Rattle.tau_machine.specs.Runs as machine
use Rattle.tau_machine.specs.Invariant.{Invariant}
use Rattle.tau_machine.proofs.Results.{run_theorem}
use Rattle.tau_core.specs.declared.state.Load.{Load}
use Rattle.tau_core.specs.Opens.{nothing}
use Rattle.tau_core.specs.State.{Plain}
use Rattle.tau_core.specs.View.{core_of, setting_of}
use Rattle.tau_core.specs.Pieces.{IsPieceOf, Paired, Spelled}
use Rattle.tau_occ.specs.declared.style.Style.{Style}
use Rattle.tau_run.specs.CoreRun.{AreAcks, IsGiven}
use Rattle.tau_run.specs.Gives.{CameTo, came_far}
use Rattle.tau_run.specs.StopsLeave.{HasFront, HasSomeFront, NamesLowest, stops_in}
use Rattle.tau_run.specs.Writers.{EachOf, Left}
use Rattle.tau_run.proofs.Given.{contents_there}
use Rattle.tau_run.proofs.Start.{started}
use Rattle.tau_rule.specs.Holders.{LeadHeld}
use Rattle.tau_rule.specs.Rule.{anchors_at}
use Rattle.tau_crew_facts.specs.Writers.{HasPieces, HasEnough, HasWritten}
use Rattle.tau_crew_facts.specs.Ends.{AreApart, AreLasting, IsClosed, ManagerEnds, IsThreadEnd, failed_in, stopped_by, stops_of}
use Rattle.tau_crew_facts.specs.Spacing.{IsSpacing}
use Rattle.tau_crew_facts.specs.Threads.{lasting}
use Rattle.tau_crew_facts.proofs.RunExists.{pieces_spelled, paired_front, loose_unplaced, acks_all}
use Rattle.tau_crew_facts.proofs.Stops.{goes_at, persisted_before, stop_events, stopped_at, stopped_low, stops_all, stops_at, stops_by, stops_held, stops_led}
use Rattle.tau_base.proofs.Lists.{some_at}

-- ---- images

module _ (l : Load) (c s : Core) (j : ℕ) (base : List ℕ) (same_moved : (s.streams j).moved ≡ (c.streams j).moved) (same_anchors : anchors_at s ≡ anchors_at c) where
  -- an image with the first pieces that a manager gathered has the first items
  pub pieces_front : (taken : List Piece) → Paired (IsPieceOf l (anchors_at c)) taken (c.streams j).moved → (x : List ℕ) (p : HasPieces (format_of l.mode) l.streams j base taken x) → HasFront l.streams j base l s (bytes_of p.front) x
  pieces_front taken pair x p = record {
    count = length p.front;
    spelled =
        (let whole : Paired (IsPieceOf l (anchors_at c)) (p.front ++ p.rest) (c.streams j).moved = subst (λ (ps : List Piece). Paired (IsPieceOf l (anchors_at c)) ps (c.streams j).moved) p.is pair in
        let first : Spelled l (anchors_at c) (take (length p.front) (c.streams j).moved) (bytes_of p.front) =
        pieces_spelled l (anchors_at c) p.front (take (length p.front) (c.streams j).moved) (paired_front (IsPieceOf l (anchors_at c)) p.front p.rest (c.streams j).moved whole) in
        subst (λ (a : ℕ → List (List ℕ)). Spelled l a (take (length p.front) (s.streams j).moved) (bytes_of p.front)) (sym same_anchors)
        (subst (λ (items : List Item). Spelled l (anchors_at c) (take (length p.front) items) (bytes_of p.front)) (sym same_moved) first));
    has = p.has;
  }

  -- the writer of a stream, where it is stopped exactly if its disk failed
  pub writer_left : {D : Type 0} {G : Ghosts D} (w w' : Writer D G) → ManagerEnds l c j base w w' → slice_index s.plv j ≡ slice_index c.plv j → (has_failed w' ≡ false → (s.streams j).stop ≡ None) →
      (has_failed w' ≡ true → (at : ℕ) × ((s.streams j).stop ≡ Some at)) → Left l s j base w w'
  writer_left {D} {G} w w' e plv goes stops =
      let g : HasWritten (format_of l.mode) l.streams j base e.taken (slice_index c.plv j) w w' = e.written in
      record {
        before = λ t. passes_weaker G.moment G.may_leave_since (disk_of w) (disk_of w') (HasEnough (format_of l.mode) l.streams j base e.taken (durable_of w)) (HasSomeFront l.streams j base l s) (g.before t) (λ x p. (bytes_of p.0.front, pieces_front e.taken e.moved x p.0));
        present = λ t x left. (let p = g.present t x left in (bytes_of p.0.front, pieces_front e.taken e.moved x p.0, (let r = p.1 in omega (arith, r, plv))));
        reached = λ t. (let r = g.reached t in (r.0, r.1, r.2, r.3, r.4 ∙ sym plv));
        goes = λ f. (goes f, g.goes f);
        stops = λ f. (let h = g.stops f in (stops f, h.0, h.1));
        faults = g.faults;
      }

-- ---- the end, over any opening

module _ {D : Type 0} {G : Ghosts D} (bases : ℕ → List ℕ) (first : Plain) {style : Style} (c : Core) (ws ws' : List (Writer D G)) (acks : List (ℕ × List ℕ)) (e : IsThreadEnd bases first style c ws ws' acks) where
  abbrev k : IsClosed first style c
  k = e.closed

  abbrev l : Load
  l = first.load

  abbrev pub failed : ℕ → Bool
  failed j = failed_in (slice_get ws' j)

  -- the state in which each stream whose disk failed is stopped
  abbrev pub s : Core
  s = stopped_by ws' c

  all_stopped : stopped_at (stops_by failed c.plv l.streams) c ≡ s
  all_stopped = ap (λ (stops : ℕ → Option ℕ). stopped_at stops c) (stops_all ws' c.plv l.streams (let a = e.count in let b = e.managers.count in omega (arith, a, b)))

  abbrev pub events : List Event
  events = k.events ++ stop_events failed c.plv l.streams

  pub led : machine.Run (setting_of l) (core_of first nothing) events k.joined s
  led = subst (λ (x : Core). machine.Run (setting_of l) (core_of first nothing) events k.joined x) all_stopped (stops_led (setting_of l) (core_of first nothing) k.events k.joined c k.run k.going failed l.streams (omega arith))

  pub all_held : LeadHeld (setting_of l) style events (core_of first nothing) s k.joined
  all_held =
      subst (λ (x : Core). LeadHeld (setting_of l) style events (core_of first nothing) x k.joined) all_stopped
      (stops_held (setting_of l) (core_of first nothing) k.events k.joined c k.run k.going failed style k.held l.streams (omega arith))

  -- no stop persists anything
  pub lasts_on : AreLasting l events ws'
  lasts_on j upto m w' is t = e.lasts j upto (persisted_before failed c.plv j upto k.events l.streams m) w' is t

  pub inv : Invariant (setting_of l) k.joined s
  inv = run_theorem (setting_of l) (core_of first nothing) events k.joined s led

  pub are_acks : AreAcks l s acks
  are_acks = acks_all l k.joined s inv k.opened.stands.sound.workers_low acks e.clerk.told

  pub writers : EachOf (λ j w w'. Left l s j (bases j) w w') ws ws'
  writers = record {
    count = e.managers.count;
    each = λ j w is.
        (let x = e.managers.each j w is in (
          x.0,
          x.1,
          writer_left l c s j (bases j) refl refl w x.0 x.2 refl (goes_at ws' c.plv j x.0 x.1) (λ failed. (slice_index c.plv j, stops_at ws' c.plv j x.0 x.1 failed)),
        ));
  }

  pub stop_is_low : (j at : ℕ) → (s.streams j).stop ≡ Some at → j < l.streams
  stop_is_low j at is = let lt = stopped_low ws' c.plv j at is in let a = e.managers.count in let b = e.count in omega (arith, lt, a, b)

  -- there are as many writers as streams
  pub lowest : (o : Option ℕ) → NamesLowest (length ws') (stops_of ws' c.plv) o → NamesLowest l.streams (stops_in s) o
  lowest o names = subst (λ (n : ℕ). NamesLowest n (stops_of ws' c.plv) o) (e.managers.count ∙ e.count) names

-- ---- so far it has come

module _ {D : Type 0} {G : Ghosts D} (bases : ℕ → List ℕ) (first : Plain) {style : Style} (long : (j : ℕ) → j < first.load.streams → length (bases j) ≡ slice_index first.load.opening.ends j) (c : Core) (ws ws' : List (Writer D G)) (acks : List (ℕ × List ℕ))
    (e : IsThreadEnd bases first style c ws ws' acks) where
  abbrev K : List (Act Txn)
  K = e.closed.joined

  abbrev pub end : Core
  end = s bases first c ws ws' acks e

  managed_at : (j : ℕ) → j < first.load.streams → (w w' : Writer D G) × ManagerEnds first.load c j (bases j) w w'
  managed_at j lt =
      let w = some_at ws j (let count = e.count in omega (arith, count, lt)) in
      let x = e.managers.each j w.0 w.1 in
      (w.0, x.0, x.2)

  pub given : (contents : List (List ℕ)) × (length contents ≡ first.load.streams) × ((j : ℕ) (content : List ℕ) → slice_get contents j ≡ Some content → IsGiven first.load K end j (bases j) content)
  given =
      contents_there first.load K end (inv bases first c ws ws' acks e) e.closed.opened.stands.sound.workers_low bases long e.closed.boxes (λ j lt. (let x = managed_at j lt in (x.2.own, x.2.posted)))
      (λ j lt. (let x = managed_at j lt in (bytes_of x.2.taken, pieces_spelled first.load (anchors_at c) x.2.taken (c.streams j).moved x.2.moved)))
      (λ w t placed. absurd (let bad : None ≡ Some t = sym (loose_unplaced (c.workers w).hand (e.closed.loose w)) ∙ placed in cc bad))

  abbrev pub came : CameTo (lasting style ws') bases first.load ws ws' acks
  came = record {
    opening = core_of first nothing;
    first = started first.load first e.closed.opened;
    state = end;
    events = events bases first c ws ws' acks e;
    joined = K;
    led = led bases first c ws ws' acks e;
    part = ((all_held bases first c ws ws' acks e, tt), lasts_on bases first c ws ws' acks e);
    contents = given.0;
    streams = given.1;
    given = given.2;
    acked = are_acks bases first c ws ws' acks e;
    room = e.closed.opened.stands.sound.streams_high;
    stop_low = stop_is_low bases first c ws ws' acks e;
    writers = writers bases first c ws ws' acks e;
  }

  -- managers that have kept their distance
  pub apart_whole : AreApart bases first.load c → lasting style ws' true first.load (core_of first nothing) (came_far came)
  apart_whole apart = (
    (
      all_held bases first c ws ws' acks e,
      λ going j lt. subst (λ (k : ℕ). IsSpacing (slice_index first.load.opening.anchors.items j) k (slice_index c.plv j) (map (λ (v : List ℕ). slice_index v j) (c.streams j).anchors)) (long j lt) (apart j lt),
    ),
    lasts_on bases first c ws ws' acks e,
  )
