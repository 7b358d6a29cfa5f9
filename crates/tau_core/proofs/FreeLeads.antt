-- A key is freed; a read-only call joins the committed ones by its first.
use Rattle.std.proofs.Common.{ℕ, ◌≡◌, Bool, true, false, List, [], ◌∷◌, ◌++◌, refl, sym, ap, subst, ◌∙◌, append_assoc, Option, length-set}
use Rattle.std.specs.Prelude.{Some, None, ◌==◌, if◌then◌else◌, map, slice_get, slice_set}
use Rattle.std.specs.Map.{lookup}
use Rattle.std.proofs.lemmas.List.{append-nil}
use Rattle.std.proofs.lemmas.Bool.{eq-eqb, ne_eqb}
use Rattle.std.proofs.lemmas.Option.{slice_get_within}
use Rattle.tau_base.specs.Database.{same_key}
use Rattle.tau_base.specs.Shards.{shard_number}
use Rattle.tau_model.specs.History.{Act, Reordered}
use Rattle.tau_model.specs.declared.committed.Committed.{Committed}
use Rattle.tau_model.proofs.Reorder.{reordered_itself}
use Rattle.tau_machine.specs.Hands.{Txn, Hand, Freeing, lv_of, committed_of}
use Rattle.tau_shard.specs.Shard.{at, Shard, shard_freed}
use Rattle.tau_machine.specs.Worker.{Worker, hand_joined, hand_freed}
use Rattle.tau_machine.specs.Invariant.{Invariant}
use Rattle.tau_machine.specs.Pieces.{placed_in}
use Rattle.tau_machine.specs.Shapes.{ShardShape}
use Rattle.tau_machine.specs.State.{Core, Outbox, Ticket, ticket, Record}
use Rattle.tau_machine.specs.Events.{with_worker, with_shard, with_outbox, ready, Frees, Reads, Finishes}
use Rattle.tau_shard.proofs.At.{at_same, at_itself}
use Rattle.tau_shard.specs.Plain.{PlainShard}
use Rattle.tau_shard.specs.Read.{shard_of}
use Rattle.tau_machine.proofs.States.{again}
use Rattle.tau_ack.specs.declared.Waiting.{Waiting}
use Rattle.tau_txn.specs.Next as txn
use Rattle.tau_txn.specs.Txn.{hand_in, bytes_in}
use Rattle.tau_core.specs.Plain.{PlainSeat}
use Rattle.tau_core.specs.State.{Plain}
use Rattle.tau_core.specs.View.{setting_of, worker_of, Hidden, shard_in, committed_by, seat_worker, worker_in, tickets, pending_in, core_of}
use Rattle.tau_core.specs.Stands.{Stands, SoundSeat, anchors_at}
use Rattle.tau_core.specs.Pieces.{IsPieceOf, Paired}
use Rattle.tau_core.proofs.Carried.{Carried}
use Rattle.tau_core.specs.Frees.{FreesKey, EndsCall}
use Rattle.tau_core.proofs.Lists.{reads_got, reads_changed, each_got}
use Rattle.tau_core.proofs.Seats.{worker_of_seat, seat_inside}
use Rattle.tau_core.proofs.Begins.{ready_in_hand}
use Rattle.tau_base.proofs.Lists.{map_append}

-- a call that joins is the last of its worker's
by_self : (workers w : ℕ) (xs : List Committed) (c : Committed) → worker_of workers c.number ≡ w → committed_by workers w (xs ++ c ∷ []) ≡ committed_by workers w xs ++ c ∷ []
by_self workers w [] c e = let f : (worker_of workers c.number == w) ≡ true = eq-eqb (worker_of workers c.number) w e in rw f refl
by_self workers w (x ∷ xs) c e = by_test (worker_of workers x.number == w) (by_self workers w xs c e)
  where
    by_test : (b : Bool) → committed_by workers w (xs ++ c ∷ []) ≡ committed_by workers w xs ++ c ∷ [] →
        (if b then x ∷ committed_by workers w (xs ++ c ∷ []) else committed_by workers w (xs ++ c ∷ [])) ≡ (if b then x ∷ committed_by workers w xs else committed_by workers w xs) ++ c ∷ []
    by_test true r = ap (λ l. x ∷ l) r
    by_test false r = r

by_other : (workers w u : ℕ) (xs : List Committed) (c : Committed) → worker_of workers c.number ≡ w → (u ≡ w → ⊥) → committed_by workers u (xs ++ c ∷ []) ≡ committed_by workers u xs
by_other workers w u [] c e ne = let f : (worker_of workers c.number == u) ≡ false = ne_eqb (worker_of workers c.number) u (λ a. ne (sym a ∙ e)) in rw f refl
by_other workers w u (x ∷ xs) c e ne = by_test (worker_of workers x.number == u) (by_other workers w u xs c e ne)
  where
    by_test : (b : Bool) → committed_by workers u (xs ++ c ∷ []) ≡ committed_by workers u xs →
        (if b then x ∷ committed_by workers u (xs ++ c ∷ []) else committed_by workers u (xs ++ c ∷ [])) ≡ (if b then x ∷ committed_by workers u xs else committed_by workers u xs)
    by_test true r = ap (λ l. x ∷ l) r
    by_test false r = r

-- these calls join at worker w, and at no other
pub record JoinAt (workers w : ℕ) (joined : List Committed) : Type 0 where
  pub here : (xs : List Committed) → committed_by workers w (xs ++ joined) ≡ committed_by workers w xs ++ joined
  pub elsewhere : (u : ℕ) → (u ≡ w → ⊥) → (xs : List Committed) → committed_by workers u (xs ++ joined) ≡ committed_by workers u xs

pub join_none : (workers w : ℕ) → JoinAt workers w []
join_none workers w = record {
  here = λ xs. ap (committed_by workers w) (append-nil xs) ∙ sym (append-nil (committed_by workers w xs));
  elsewhere = λ u ne xs. ap (committed_by workers u) (append-nil xs);
}

pub join_one : (workers w : ℕ) (c : Committed) → worker_of workers c.number ≡ w → JoinAt workers w (c ∷ [])
join_one workers w c e = record { here = λ xs. by_self workers w xs c e; elsewhere = λ u ne xs. by_other workers w u xs c e ne }

-- a list and another order of it, with these after both
in_front : {A : Type 0} (xs ys zs : List A) → Reordered xs ys → Reordered (xs ++ zs) (ys ++ zs)
in_front [] ys zs e = rw e (reordered_itself zs)
in_front {A} (x ∷ xs) ys zs (front, back, e, r) = (
  front,
  back ++ zs,
  ap (λ (l : List A). l ++ zs) e ∙ append_assoc front (x ∷ back) zs,
  subst (λ (l : List A). Reordered (xs ++ zs) l) (append_assoc front back zs) (in_front xs (front ++ back) zs r),
)

pub order_on : (xs joined : List Committed) (K more : List (Act Txn)) → Reordered (map committed_of K) xs → joined ≡ map committed_of more → Reordered (map committed_of (K ++ more)) (xs ++ joined)
order_on xs joined K more e f =
    subst (λ (l : List Committed). Reordered (map committed_of (K ++ more)) (xs ++ l)) (sym f)
    (subst (λ (l : List Committed). Reordered l (xs ++ map committed_of more)) (sym (map_append committed_of K more)) (in_front (map committed_of K) xs (map committed_of more) e))

-- a worker's part is another one, and calls of it join the committed ones
module _ (p : Plain) (h : Hidden) (w : ℕ) (seat new : PlainSeat) (joined : List Committed) (is : slice_get p.seats w ≡ Some seat) (joins : JoinAt p.load.workers w joined) where
  pub joined_workers : (λ (k : ℕ). worker_in p.load (slice_get (slice_set p.seats w new) k) (committed_by p.load.workers k (p.committed ++ joined)))
      ≡ at w (seat_worker p.load new (committed_by p.load.workers w p.committed ++ joined)) (core_of p h).workers
  joined_workers =
      let f : ℕ → Option PlainSeat → Worker = λ k o. worker_in p.load o (committed_by p.load.workers k p.committed) in
      let f' : ℕ → Option PlainSeat → Worker = λ k o. worker_in p.load o (committed_by p.load.workers k (p.committed ++ joined)) in
      reads_changed f f' p.seats w new (seat_inside p h w seat new is) (λ k ne o. ap (worker_in p.load o) (joins.elsewhere k ne p.committed))
      ∙ ap (λ (x : List Committed). at w (seat_worker p.load new x) (core_of p h).workers) (joins.here p.committed)

module _ (p p' : Plain) (h : Hidden) (w : ℕ) (q : FreesKey w p p') (o : SoundSeat p.load w q.seat) where
  abbrev i : ℕ
  i = shard_number q.key

  free_hand : ((core_of p h).workers w).hand ≡ Some q.hand
  free_hand = ap (λ (x : Worker). x.hand) (worker_of_seat p h w q.seat q.new q.is) ∙ q.hand_is

  free_shard : (core_of p h).shards i ≡ shard_of q.shard
  free_shard = ap shard_in q.shard_is

  abbrev hand_left : Hand
  hand_left = hand_freed (hand_joined q.hand (Freeing q.act) q.hand.dep) q.key

  free_core : (joins : JoinAt p.load.workers w q.joined) → core_of p' h ≡ with_shard (with_worker (core_of p h) w (record ((core_of p h).workers w) { hand = Some hand_left; committed = ((core_of p h).workers w).committed ++ q.joined })) i
      (shard_freed ((core_of p h).shards i) w q.key (lv_of q.act) (lookup (same_key q.key) q.act.effect.writes))
  free_core joins =
      let c : List Committed = committed_by p.load.workers w p.committed in
      ap (λ (x : Plain). core_of x h) q.after
      ∙ (λ l. record (core_of p h) {
        shards = (reads_got (λ j (x : Option PlainShard). shard_in x) p.shards i q.freed (slice_get_within p.shards i q.shard q.shard_is)
            ∙ ap (λ (x : Shard). at i x (core_of p h).shards) (q.frees ∙ ap (λ (x : Shard). shard_freed x w q.key (lv_of q.act) (lookup (same_key q.key) q.act.effect.writes)) (sym free_shard))) l;
        workers = (joined_workers p h w q.seat q.new q.joined q.is joins
            ∙ ap (λ (x : Worker). at w x (core_of p h).workers)
            (ap (λ (x : PlainSeat). seat_worker p.load x (c ++ q.joined)) q.others
            ∙ (λ k. record (sym (worker_of_seat p h w q.seat q.new q.is) k) { hand = q.left k; committed = (sym (worker_of_seat p h w q.seat q.new q.is) k).committed ++ q.joined }))) l;
        outboxes = (reads_got (λ k (x : Option PlainSeat). record { posted = h.posted k; pending = pending_in x }) p.seats w q.new (seat_inside p h w q.seat q.new q.is)
            ∙ ap (λ (x : Outbox). at w x (core_of p h).outboxes) (λ k. record { posted = h.posted w; pending = (ap (λ (x : PlainSeat). pending_in (Some x)) q.others ∙ ap pending_in (sym q.is)) k })
            ∙ at_itself w (core_of p h).outboxes) l;
      })

  -- the call was posted, or had joined
  pub frees : q.hand.phase ≡ Freeing q.act → q.joined ≡ [] → Frees (setting_of p.load) w (core_of p h) (core_of p' h)
  frees phase none = record {
    hand = q.hand;
    act = q.act;
    key = q.key;
    mode = q.mode;
    is = free_hand;
    phase = phase;
    held = q.held;
    lowest = q.lowest;
    after = free_core (subst (λ (l : List Committed). JoinAt p.load.workers w l) (sym none) (join_none p.load.workers w))
        ∙ (λ l. with_shard (with_worker (core_of p h) w (record ((core_of p h).workers w) {
          hand = Some (hand_freed (record q.hand { phase = sym phase l }) q.key);
          committed = (ap (λ (x : List Committed). ((core_of p h).workers w).committed ++ x) none ∙ append-nil ((core_of p h).workers w).committed) l;
        })) i (shard_freed ((core_of p h).shards i) w q.key (lv_of q.act) (lookup (same_key q.key) q.act.effect.writes)));
  }

  -- a read-only call joins by this
  pub first_frees : (r : txn.Reads p.load.procs w q.hand q.act) → q.joined ≡ committed_of q.act ∷ [] →
      (m : Core) × Reads (setting_of p.load) w (core_of p h) m q.act × Frees (setting_of p.load) w m (core_of p' h)
  first_frees r one =
      let s : Core = core_of p h in
      let rest : ready (setting_of p.load) s w ≡ s.workers w = ready_in_hand p.load.streams (s.workers w) q.hand free_hand in
      let hj : Hand = hand_joined q.hand (Freeing q.act) q.hand.dep in
      let wk : Worker = record (ready (setting_of p.load) s w) { hand = Some hj; committed = (s.workers w).committed ++ committed_of q.act ∷ [] } in
      let m : Core = with_worker s w wk in
      let sh : Shard = shard_freed (s.shards i) w q.key (lv_of q.act) (lookup (same_key q.key) q.act.effect.writes) in
      let number : worker_of p.load.workers (committed_of q.act).number ≡ w =
      ap (λ (a : Act Txn). worker_of p.load.workers a.call.call.number) r.is ∙ o.txn.whose q.hand q.hand_is in (
        m,
        record { hand = q.hand; effect = r.effect; is = ap (λ (x : Worker). x.hand) rest ∙ free_hand; phase = r.phase; ended = r.ended; no_write = r.no_write; act = r.is; after = refl },
        record {
          hand = hj;
          act = q.act;
          key = q.key;
          mode = q.mode;
          is = ap (λ (x : Worker). x.hand) (at_same w wk s.workers);
          phase = refl;
          held = q.held;
          lowest = q.lowest;
          after = free_core (subst (λ (l : List Committed). JoinAt p.load.workers w l) (sym one) (join_one p.load.workers w (committed_of q.act) number))
              ∙ ap (λ (x : List Committed × Worker). with_shard (with_worker s w (record x.1 { hand = Some hand_left; committed = (s.workers w).committed ++ x.0 })) i sh) (λ l. (one l, sym rest l))
              ∙ ap (λ (c : Core). with_shard c i sh) (sym (again s w (record wk { hand = Some hand_left }) wk))
              ∙ ap (λ (x : Worker). with_shard (with_worker m w (record x { hand = Some hand_left })) i sh) (sym (at_same w wk s.workers));
        },
      )

  pub free_stands : (K more : List (Act Txn)) → q.joined ≡ map committed_of more → Carried p K h → Invariant (setting_of p.load) (K ++ more) (core_of p' h) → Stands p' (K ++ more) h
  free_stands K more joined g inv =
      let within = seat_inside p h w q.seat q.new q.is in
      let n : Plain = record p { seats = slice_set p.seats w q.new; shards = slice_set p.shards i q.freed; committed = p.committed ++ q.joined; room = q.room } in
      let inv' : Invariant (setting_of p.load) (K ++ more) (core_of n h) = subst (λ (x : Plain). Invariant (setting_of p.load) (K ++ more) (core_of x h)) q.after inv in
      subst (λ (x : Plain). Stands x (K ++ more) h) (sym q.after) (record {
        sound = record {
          workers_low = g.sound.workers_low;
          workers_high = g.sound.workers_high;
          streams_low = g.sound.streams_low;
          streams_high = g.sound.streams_high;
          few = g.sound.few;
          takes = g.sound.takes;
          opened = g.sound.opened;
          shards = length-set p.shards i q.freed ∙ g.sound.shards;
          seats = length-set p.seats w q.new ∙ g.sound.seats;
          streams = g.sound.streams;
          ends = g.sound.ends;
          gathered = g.sound.gathered;
          plv = g.sound.plv;
          seat = each_got (SoundSeat p.load) p.seats w q.new within q.sound g.sound.seat;
          wide = g.sound.wide;
          narrow = λ k sh e. subst (λ (x : Shard). ShardShape (setting_of p.load) x) (ap shard_in e) (inv'.shapes.shards k);
          room = q.rooms;
        };
        inv = inv';
        order = order_on p.committed q.joined K more g.order joined;
        posted = each_got (λ k (t : PlainSeat). Paired (IsPieceOf p.load (anchors_at p)) t.outbox.pieces (h.posted k)) p.seats w q.new within
            (subst (λ (x : PlainSeat). Paired (IsPieceOf p.load (anchors_at p)) x.outbox.pieces (h.posted w)) (sym q.others) (g.posted w q.seat q.is)) g.posted;
        own = g.own;
        placed = λ k x a e f. (each_got (λ l (y : PlainSeat). (b : Act Txn) → placed_in (hand_in p.load.procs y.txn) ≡ Some b → IsPieceOf p.load (anchors_at p) (record { start = y.start; bytes = bytes_in y.txn }) (Record b))
            p.seats w q.new within (λ b d. absurd (let bad : None ≡ Some b = sym (ap placed_in q.left) ∙ d in cc)) (λ l y d b c. g.placed l y b d c)) k x e a f;
        gathered = g.gathered;
      })

-- a call ends
module _ (p p' : Plain) (h : Hidden) (w : ℕ) (q : EndsCall w p p') (o : SoundSeat p.load w q.seat) where
  end_hand : ((core_of p h).workers w).hand ≡ Some q.hand
  end_hand = ap (λ (x : Worker). x.hand) (worker_of_seat p h w q.seat q.new q.is) ∙ q.hand_is

  end_core : (joins : JoinAt p.load.workers w q.joined) → core_of p' h ≡ with_outbox (with_worker (core_of p h) w (record ((core_of p h).workers w) { hand = None; committed = ((core_of p h).workers w).committed ++ q.joined })) w
      (record ((core_of p h).outboxes w) { pending = ((core_of p h).outboxes w).pending ++ ticket q.act ∷ [] })
  end_core joins =
      let c : List Committed = committed_by p.load.workers w p.committed in
      let waiting : tickets q.new.pending.calls ≡ pending_in (slice_get p.seats w) ++ ticket q.act ∷ [] =
      ap tickets q.waits ∙ map_append (λ (x : Waiting). record { number = x.number; lv = x.lv }) q.seat.pending.calls (record { number = q.act.call.call.number; lv = lv_of q.act } ∷ [])
      ∙ ap (λ (x : Option PlainSeat). pending_in x ++ ticket q.act ∷ []) (sym q.is) in
      ap (λ (x : Plain). core_of x h) q.after
      ∙ (λ l. record (core_of p h) {
        workers = (joined_workers p h w q.seat q.new q.joined q.is joins
            ∙ ap (λ (x : Worker). at w x (core_of p h).workers)
            (ap (λ (x : PlainSeat). seat_worker p.load x (c ++ q.joined)) q.others
            ∙ (λ k. record (sym (worker_of_seat p h w q.seat q.new q.is) k) { hand = q.gone k; committed = (sym (worker_of_seat p h w q.seat q.new q.is) k).committed ++ q.joined }))) l;
        outboxes = (reads_got (λ k (x : Option PlainSeat). record { posted = h.posted k; pending = pending_in x }) p.seats w q.new (seat_inside p h w q.seat q.new q.is)
            ∙ ap (λ (x : List Ticket). at w (record { posted = h.posted w; pending = x }) (core_of p h).outboxes) waiting) l;
      })

  pub finishes : q.hand.phase ≡ Freeing q.act → q.joined ≡ [] → Finishes (setting_of p.load) w (core_of p h) (core_of p' h)
  finishes phase none = record {
    hand = q.hand;
    act = q.act;
    is = end_hand;
    phase = phase;
    held = q.held;
    after = end_core (subst (λ (l : List Committed). JoinAt p.load.workers w l) (sym none) (join_none p.load.workers w))
        ∙ ap (λ (x : List Committed). with_outbox (with_worker (core_of p h) w (record ((core_of p h).workers w) { hand = None; committed = x })) w
        (record ((core_of p h).outboxes w) { pending = ((core_of p h).outboxes w).pending ++ ticket q.act ∷ [] }))
        (ap (λ (x : List Committed). ((core_of p h).workers w).committed ++ x) none ∙ append-nil ((core_of p h).workers w).committed);
  }

  pub reading_finishes : (r : txn.Reads p.load.procs w q.hand q.act) → q.joined ≡ committed_of q.act ∷ [] →
      (m : Core) × Reads (setting_of p.load) w (core_of p h) m q.act × Finishes (setting_of p.load) w m (core_of p' h)
  reading_finishes r one =
      let s : Core = core_of p h in
      let rest : ready (setting_of p.load) s w ≡ s.workers w = ready_in_hand p.load.streams (s.workers w) q.hand end_hand in
      let hj : Hand = hand_joined q.hand (Freeing q.act) q.hand.dep in
      let wk : Worker = record (ready (setting_of p.load) s w) { hand = Some hj; committed = (s.workers w).committed ++ committed_of q.act ∷ [] } in
      let m : Core = with_worker s w wk in
      let box : Outbox = record (s.outboxes w) { pending = (s.outboxes w).pending ++ ticket q.act ∷ [] } in
      let number : worker_of p.load.workers (committed_of q.act).number ≡ w =
      ap (λ (a : Act Txn). worker_of p.load.workers a.call.call.number) r.is ∙ o.txn.whose q.hand q.hand_is in (
        m,
        record { hand = q.hand; effect = r.effect; is = ap (λ (x : Worker). x.hand) rest ∙ end_hand; phase = r.phase; ended = r.ended; no_write = r.no_write; act = r.is; after = refl },
        record {
          hand = hj;
          act = q.act;
          is = ap (λ (x : Worker). x.hand) (at_same w wk s.workers);
          phase = refl;
          held = q.held;
          after = end_core (subst (λ (l : List Committed). JoinAt p.load.workers w l) (sym one) (join_one p.load.workers w (committed_of q.act) number))
              ∙ ap (λ (x : List Committed × Worker). with_outbox (with_worker s w (record x.1 { hand = None; committed = (s.workers w).committed ++ x.0 })) w box) (λ l. (one l, sym rest l))
              ∙ ap (λ (c : Core). with_outbox c w box) (sym (again s w (record wk { hand = None }) wk))
              ∙ ap (λ (x : Worker). with_outbox (with_worker m w (record x { hand = None })) w box) (sym (at_same w wk s.workers));
        },
      )

  pub end_stands : (K more : List (Act Txn)) → q.joined ≡ map committed_of more → Carried p K h → Invariant (setting_of p.load) (K ++ more) (core_of p' h) → Stands p' (K ++ more) h
  end_stands K more joined g inv =
      let within = seat_inside p h w q.seat q.new q.is in
      let n : Plain = record p { seats = slice_set p.seats w q.new; committed = p.committed ++ q.joined; room = q.room } in
      let inv' : Invariant (setting_of p.load) (K ++ more) (core_of n h) = subst (λ (x : Plain). Invariant (setting_of p.load) (K ++ more) (core_of x h)) q.after inv in
      subst (λ (x : Plain). Stands x (K ++ more) h) (sym q.after) (record {
        sound = record {
          workers_low = g.sound.workers_low;
          workers_high = g.sound.workers_high;
          streams_low = g.sound.streams_low;
          streams_high = g.sound.streams_high;
          few = g.sound.few;
          takes = g.sound.takes;
          opened = g.sound.opened;
          shards = g.sound.shards;
          seats = length-set p.seats w q.new ∙ g.sound.seats;
          streams = g.sound.streams;
          ends = g.sound.ends;
          gathered = g.sound.gathered;
          plv = g.sound.plv;
          seat = each_got (SoundSeat p.load) p.seats w q.new within q.sound g.sound.seat;
          wide = g.sound.wide;
          narrow = g.sound.narrow;
          room = q.rooms;
        };
        inv = inv';
        order = order_on p.committed q.joined K more g.order joined;
        posted = each_got (λ k (t : PlainSeat). Paired (IsPieceOf p.load (anchors_at p)) t.outbox.pieces (h.posted k)) p.seats w q.new within
            (subst (λ (x : PlainSeat). Paired (IsPieceOf p.load (anchors_at p)) x.outbox.pieces (h.posted w)) (sym q.others) (g.posted w q.seat q.is)) g.posted;
        own = g.own;
        placed = λ k x a e f. (each_got (λ l (y : PlainSeat). (b : Act Txn) → placed_in (hand_in p.load.procs y.txn) ≡ Some b → IsPieceOf p.load (anchors_at p) (record { start = y.start; bytes = bytes_in y.txn }) (Record b))
            p.seats w q.new within (λ b d. absurd (let bad : None ≡ Some b = sym (ap placed_in q.gone) ∙ d in cc)) (λ l y d b c. g.placed l y b d c)) k x e a f;
        gathered = g.gathered;
      })
