-- Persist and Stop.
use Rattle.std.proofs.Common.{ℕ, ◌<◌, ◌≡◌, List, [], ◌++◌, length, refl, sym, ap, subst, ◌∙◌, length-set}
use Rattle.std.specs.Prelude.{Some, Option, slice_get, slice_set}
use Rattle.std.proofs.lemmas.List.{append-nil}
use Rattle.std.proofs.lemmas.Option.{slice_get_within}
use Rattle.std.proofs.Math.Path.{fun_ext}
use Rattle.tau_model.specs.History.{Act}
use Rattle.tau_machine.specs.Hands.{Txn}
use Rattle.tau_machine.specs.State.{Setting, Core, Stream, Record}
use Rattle.tau_shard.specs.Shard as machine
use Rattle.tau_machine.specs.Invariant.{Invariant}
use Rattle.tau_machine.specs.Events.{with_stream, Event, Leads, Persist, Stop}
use Rattle.tau_machine.proofs.Shapes.{invariant_kept}
use Rattle.tau_core.specs.declared.event.Outcome.TheVariants.{Went}
use Rattle.tau_core.specs.State.{Plain}
use Rattle.tau_core.specs.View.{setting_of, Hidden, anchors_in, stop_in, core_of}
use Rattle.tau_core.specs.Plain.{PlainStream}
use Rattle.tau_core.specs.Pieces.{IsPieceOf, Paired, Spelled}
use Rattle.tau_txn.specs.Txn.{bytes_in}
use Rattle.tau_core.specs.Stands.{Stands, anchors_at, SoundStream}
use Rattle.tau_core.specs.Managers.{Reaches, Persisted, stopped_at}
use Rattle.tau_core.proofs.Lists.{reads_got, reads_same, each_got}

-- an event by which no call commits keeps the invariant
pub kept : (set : Setting) (K : List (Act Txn)) (e : Event) (s s' : Core) → Invariant set K s → Leads set e s s' [] → Invariant set K s'
kept set K e s s' g leads = subst (λ (l : List (Act Txn)). Invariant set l s') (append-nil K) (invariant_kept set K e s s' [] g leads)

module _ (p p' : Plain) (K : List (Act Txn)) (h : Hidden) (g : Stands p K h) (j : ℕ) (there : j < p.load.streams) where
  pub persist_leads : (upto : ℕ) → Persisted p j upto Went p' → Leads (setting_of p.load) (Persist j upto) (core_of p h) (core_of p' h) []
  persist_leads upto q = (record { there = there; going = q.0.0; low = q.0.1; high = q.0.2; after = ap (λ (x : Plain). core_of x h) q.1 }, refl)

  pub persist_stands : (upto : ℕ) → Persisted p j upto Went p' → Stands p' K h
  persist_stands upto q =
      let leads = persist_leads upto q in
      let n : Plain = record p { plv = slice_set p.plv j upto } in
      let inv : Invariant (setting_of p.load) K (core_of n h) =
      subst (λ (x : Plain). Invariant (setting_of p.load) K (core_of x h)) q.1 (kept (setting_of p.load) K (Persist j upto) (core_of p h) (core_of p' h) g.inv leads) in
      subst (λ (x : Plain). Stands x K h) (sym q.1) (record {
        sound = record {
          workers_low = g.sound.workers_low;
          workers_high = g.sound.workers_high;
          streams_low = g.sound.streams_low;
          streams_high = g.sound.streams_high;
          few = g.sound.few;
          takes = g.sound.takes;
          opened = g.sound.opened;
          shards = g.sound.shards;
          seats = g.sound.seats;
          streams = g.sound.streams;
          ends = g.sound.ends;
          gathered = g.sound.gathered;
          plv = length-set p.plv j upto ∙ g.sound.plv;
          seat = g.sound.seat;
          wide = g.sound.wide;
          narrow = g.sound.narrow;
          room = g.sound.room;
        };
        inv = inv;
        order = g.order;
        posted = g.posted;
        own = g.own;
        placed = g.placed;
        gathered = g.gathered;
      })

  module _ (at : ℕ) (s : PlainStream) (is : slice_get p.streams j ≡ Some s) where
    abbrev pub stopped : Plain
    stopped = record p { streams = slice_set p.streams j (stopped_at s at) }

    inside : j < length p.streams
    inside = slice_get_within p.streams j s is

    anchors_same : anchors_at stopped ≡ anchors_at p
    anchors_same = fun_ext (λ k. reads_same anchors_in p.streams j (stopped_at s at) inside (sym (ap anchors_in is)) k)

    stop_after : core_of stopped h ≡ with_stream (core_of p h) j (record ((core_of p h).streams j) { stop = Some at })
    stop_after =
        let f : ℕ → Option PlainStream → Stream = λ k o. record { posted = h.own k; moved = h.moved k; anchors = anchors_in o; stop = stop_in o } in
        ap (λ (l : ℕ → Stream). record (core_of p h) { streams = l })
        (reads_got f p.streams j (stopped_at s at) inside
        ∙ ap (λ (o : Option PlainStream). machine.at j (record (f j o) { stop = Some at }) (λ k. f k (slice_get p.streams k))) (sym is))

    pub stop_leads : Reaches p j at → Leads (setting_of p.load) (Stop j at) (core_of p h) (core_of stopped h) []
    stop_leads q = (record { there = there; going = q.0; low = q.1; high = q.2; after = stop_after }, refl)

    pub stop_stands : Reaches p j at → Stands stopped K h
    stop_stands q = record {
      sound = record {
        workers_low = g.sound.workers_low;
        workers_high = g.sound.workers_high;
        streams_low = g.sound.streams_low;
        streams_high = g.sound.streams_high;
        few = g.sound.few;
        takes = g.sound.takes;
        opened = g.sound.opened;
        shards = g.sound.shards;
        seats = g.sound.seats;
        streams = length-set p.streams j (stopped_at s at) ∙ g.sound.streams;
        ends = g.sound.ends;
        gathered = g.sound.gathered;
        plv = g.sound.plv;
        seat = g.sound.seat;
        wide = each_got (λ k (t : PlainStream). SoundStream p.load t) p.streams j (stopped_at s at) inside (g.sound.wide j s is) g.sound.wide;
        narrow = g.sound.narrow;
        room = g.sound.room;
      };
      inv = kept (setting_of p.load) K (Stop j at) (core_of p h) (core_of stopped h) g.inv (stop_leads q);
      order = g.order;
      posted = λ w t e. subst (λ (a : ℕ → List (List ℕ)). Paired (IsPieceOf p.load a) t.outbox.pieces (h.posted w)) (sym anchors_same) (g.posted w t e);
      own = each_got (λ k (t : PlainStream). Paired (IsPieceOf p.load (anchors_at stopped)) t.own.pieces (h.own k)) p.streams j (stopped_at s at) inside
          (subst (λ (a : ℕ → List (List ℕ)). Paired (IsPieceOf p.load a) s.own.pieces (h.own j)) (sym anchors_same) (g.own j s is))
          (λ k t e. subst (λ (a : ℕ → List (List ℕ)). Paired (IsPieceOf p.load a) t.own.pieces (h.own k)) (sym anchors_same) (g.own k t e));
      placed = λ w t a e f. subst (λ (l : ℕ → List (List ℕ)). IsPieceOf p.load l (record { start = t.start; bytes = bytes_in t.txn }) (Record a)) (sym anchors_same) (g.placed w t a e f);
      gathered = each_got (λ k (t : PlainStream). Spelled p.load (anchors_at stopped) (h.moved k) (h.taken k ++ t.body)) p.streams j (stopped_at s at) inside
          (subst (λ (a : ℕ → List (List ℕ)). Spelled p.load a (h.moved j) (h.taken j ++ s.body)) (sym anchors_same) (g.gathered j s is))
          (λ k t e. subst (λ (a : ℕ → List (List ℕ)). Spelled p.load a (h.moved k) (h.taken k ++ t.body)) (sym anchors_same) (g.gathered k t e));
    }
