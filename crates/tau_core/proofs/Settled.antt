-- A lock that is refused, and a key that is given back.
use Rattle.std.proofs.Common.{ℕ, ◌≡◌, ◌≤◌, Bool, true, false, ◌⊎◌, inl, inr, List, [], refl, sym, ap, subst, ◌∙◌, Option, arith, length-set}
use Rattle.std.specs.Prelude.{Some, None, if◌then◌else◌, slice_get, slice_set}
use Rattle.std.proofs.lemmas.Option.{slice_get_within}
use Rattle.tau_base.specs.Shards.{shard_number}
use Rattle.tau_model.specs.History.{Act}
use Rattle.tau_model.specs.declared.committed.Committed.{Committed}
use Rattle.std.specs.Ordering.{is_le}
use Rattle.tau_base.specs.Database.{key_cmp}
use Rattle.tau_base.specs.declared.value.Key.{Key}
use Rattle.tau_base.specs.declared.value.Mode.{Mode}
use Rattle.tau_machine.specs.Hands.{Txn, Hand, Running, Quitting, mode_of}
use Rattle.tau_shard.specs.Shard.{at, Shard, shard_quit}
use Rattle.tau_machine.specs.Worker.{Worker, hand_busy, hand_quit, settled}
use Rattle.tau_machine.specs.Invariant.{Invariant}
use Rattle.tau_machine.specs.Pieces.{placed_in}
use Rattle.tau_machine.specs.Shapes.{ShardShape}
use Rattle.tau_machine.specs.State.{Record}
use Rattle.tau_machine.specs.Events.{with_worker, with_shard, ready, Refuses, Quits}
use Rattle.tau_shard.proofs.At.{at_itself}
use Rattle.tau_ack.specs.Pending.{PlainPending}
use Rattle.tau_outbox.specs.Pieces.{PlainOutbox}
use Rattle.tau_shard.specs.Plain.{PlainShard}
use Rattle.tau_shard.specs.Read.{shard_of}
use Rattle.tau_txn.specs.Txn.{hand_in, bytes_in}
use Rattle.tau_core.specs.Plain.{PlainSeat}
use Rattle.tau_core.specs.State.{Plain}
use Rattle.tau_core.specs.View.{setting_of, Hidden, shard_in, committed_by, seat_worker, tickets, core_of}
use Rattle.tau_core.specs.Stands.{is_open, Stands, Sound, SoundSeat, anchors_at}
use Rattle.tau_core.specs.Pieces.{IsPieceOf, Paired}
use Rattle.tau_core.proofs.Carried.{Carried}
use Rattle.tau_core.specs.Workers.{IsRefused, GivesBack, Keeps}
use Rattle.tau_core.proofs.Lists.{reads_got, each_got}
use Rattle.tau_core.proofs.Seats.{seat_core, worker_of_seat, same_outbox, seat_inside, seat_sound, one_open}
use Rattle.tau_core.proofs.Begins.{ready_in_hand}
use Rattle.tau_core.proofs.Leaving.{settled_hand}

one_most : (b : Bool) → (if b then 1 else 0) ≤ 1
one_most true = omega arith
one_most false = omega arith

-- both change one part of a worker and one shard, and nothing else that is carried
module _ (p : Plain) (K : List (Act Txn)) (h : Hidden) (w i : ℕ) (seat new : PlainSeat) (shard other : PlainShard) (hand k : Hand)
    (is : slice_get p.seats w ≡ Some seat) (shard_is : slice_get p.shards i ≡ Some shard) (hand_is : hand_in p.load.procs seat.txn ≡ Some hand)
    (open_is : one_open p.load seat ≡ 1) (quitting : k.phase ≡ Quitting) (keeps : Keeps seat new)
    (settles : (c : List Committed) → seat_worker p.load new c ≡ settled p.load.streams (seat_worker p.load seat c) k) (sound : SoundSeat p.load w new) where
  abbrev pub settled_plain : Plain
  settled_plain = record p { seats = slice_set p.seats w new; shards = slice_set p.shards i other }

  pub settled_core : (sh : Shard) → shard_of other ≡ sh →
      core_of settled_plain h ≡ with_shard (with_worker (core_of p h) w (settled p.load.streams ((core_of p h).workers w) k)) i sh
  settled_core sh other_is =
      let c : List Committed = committed_by p.load.workers w p.committed in
      let shards : Plain = record p { shards = slice_set p.shards i other } in
      seat_core shards h w seat new is
      ∙ (λ l. record (core_of p h) {
        workers = at w ((settles c ∙ ap (λ (x : Worker). settled p.load.streams x k) (sym (worker_of_seat p h w seat new is))) l) (core_of p h).workers;
        outboxes = same_outbox p h w seat new is (ap (λ (x : PlainPending). tickets x.calls) keeps.pending) l;
        shards = (reads_got (λ j (o : Option PlainShard). shard_in o) p.shards i other (slice_get_within p.shards i shard shard_is) ∙ ap (λ (x : Shard). at i x (core_of p h).shards) other_is) l;
      })

  none_placed : placed_in (hand_in p.load.procs new.txn) ≡ None
  none_placed = by_case (hand_in p.load.procs new.txn) refl
    where
      by_case : (o : Option Hand) → hand_in p.load.procs new.txn ≡ o → placed_in o ≡ None
      by_case None e = refl
      by_case (Some x) e = (settled_hand p.load.streams (seat_worker p.load seat []) k x quitting (ap (λ (y : Worker). y.hand) (sym (settles [])) ∙ e)).1

  pub settled_stands : Carried p K h → Invariant (setting_of p.load) K (core_of settled_plain h) → Stands settled_plain K h
  settled_stands g inv =
      let opens : one_open p.load new ≤ one_open p.load seat = (let a = one_most (is_open (hand_in p.load.procs new.txn)) in let b = open_is in omega arith) in
      let r : Sound (record p { seats = slice_set p.seats w new }) = seat_sound p h w seat new is g.sound sound opens in
      let within = seat_inside p h w seat new is in
      record {
        sound = record {
          workers_low = r.workers_low;
          workers_high = r.workers_high;
          streams_low = r.streams_low;
          streams_high = r.streams_high;
          few = r.few;
          takes = r.takes;
          opened = r.opened;
          shards = length-set p.shards i other ∙ g.sound.shards;
          seats = r.seats;
          streams = r.streams;
          ends = r.ends;
          gathered = r.gathered;
          plv = r.plv;
          seat = r.seat;
          wide = r.wide;
          narrow = λ j sh e. subst (λ (x : Shard). ShardShape (setting_of p.load) x) (ap shard_in e) (inv.shapes.shards j);
          room = r.room;
        };
        inv = inv;
        order = g.order;
        posted = each_got (λ j (t : PlainSeat). Paired (IsPieceOf p.load (anchors_at p)) t.outbox.pieces (h.posted j)) p.seats w new within
            (subst (λ (x : PlainOutbox). Paired (IsPieceOf p.load (anchors_at p)) x.pieces (h.posted w)) (sym keeps.outbox) (g.posted w seat is)) g.posted;
        own = g.own;
        placed = λ j x a e f. (each_got (λ l (y : PlainSeat). (b : Act Txn) → placed_in (hand_in p.load.procs y.txn) ≡ Some b → IsPieceOf p.load (anchors_at p) (record { start = y.start; bytes = bytes_in y.txn }) (Record b))
            p.seats w new within (λ b d. absurd (let bad : None ≡ Some b = sym none_placed ∙ d in cc)) (λ l y d b c. g.placed l y b d c)) j x e a f;
        gathered = g.gathered;
      }

open_quitting : (p : Plain) (s : PlainSeat) (h : Hand) → hand_in p.load.procs s.txn ≡ Some h → (h.phase ≡ Quitting) ⊎ (h.phase ≡ Running) → one_open p.load s ≡ 1
open_quitting p s h is (inl e) = let f : is_open (hand_in p.load.procs s.txn) ≡ true = ap is_open is ∙ ap (λ x. is_open (Some (record h { phase = x }))) e in rw f refl
open_quitting p s h is (inr e) = let f : is_open (hand_in p.load.procs s.txn) ≡ true = ap is_open is ∙ ap (λ x. is_open (Some (record h { phase = x }))) e in rw f refl

module _ (p p' : Plain) (h : Hidden) (w holder : ℕ) (q : IsRefused w holder p p') where
  refused_hand : ((core_of p h).workers w).hand ≡ Some q.hand
  refused_hand = ap (λ (x : Worker). x.hand) (worker_of_seat p h w q.seat q.new q.is) ∙ q.wants.is

  refused_ready : ready (setting_of p.load) (core_of p h) w ≡ (core_of p h).workers w
  refused_ready = ready_in_hand p.load.streams ((core_of p h).workers w) q.hand refused_hand

  pub refused_is : (ready (setting_of p.load) (core_of p h) w).hand ≡ Some q.hand
  refused_is = ap (λ (x : Worker). x.hand) refused_ready ∙ refused_hand

  pub refused_refuses : Refuses (setting_of p.load) w (core_of p h) (core_of p' h)
  refused_refuses = record {
    hand = q.hand;
    key = q.key;
    mode = q.mode;
    is = ap (λ (x : Worker). x.hand) refused_ready ∙ refused_hand;
    phase = q.wants.phase;
    next = q.wants.next;
    after = ap (λ (x : Plain). core_of x h) q.after
        ∙ settled_core p [] h w (shard_number q.key) q.seat q.new q.shard q.kept q.hand (hand_busy q.hand) q.is q.shard_is q.wants.is (open_quitting p q.seat q.hand q.wants.is (inr q.wants.phase)) refl q.keeps q.settles q.sound
        ((core_of p h).shards (shard_number q.key)) (q.kept_is ∙ sym (ap shard_in q.shard_is))
        ∙ ap (λ (x : (ℕ → Shard) × Worker). record (core_of p h) { shards = x.0; workers = at w (settled p.load.streams x.1 (hand_busy q.hand)) (core_of p h).workers })
        (λ l. (at_itself (shard_number q.key) (core_of p h).shards l, sym refused_ready l));
  }

  pub refused_stands : (K : List (Act Txn)) → Carried p K h → Invariant (setting_of p.load) K (core_of p' h) → Stands p' K h
  refused_stands K g inv = subst (λ (x : Plain). Stands x K h) (sym q.after)
      (settled_stands p K h w (shard_number q.key) q.seat q.new q.shard q.kept q.hand (hand_busy q.hand) q.is q.shard_is q.wants.is (open_quitting p q.seat q.hand q.wants.is (inr q.wants.phase)) refl q.keeps q.settles q.sound
      g (subst (λ (x : Plain). Invariant (setting_of p.load) K (core_of x h)) q.after inv))

module _ (p p' : Plain) (h : Hidden) (w : ℕ) (q : GivesBack w p p') where
  gives_hand : ((core_of p h).workers w).hand ≡ Some q.hand
  gives_hand = ap (λ (x : Worker). x.hand) (worker_of_seat p h w q.seat q.new q.is) ∙ q.hand_is

  quits_core : Quits (setting_of p.load) w false (core_of p h) (core_of p' h)
  quits_core = record {
    hand = q.hand;
    key = q.key;
    mode = q.mode;
    is = gives_hand;
    phase = inl q.phase;
    held = q.held;
    after = ap (λ (x : Plain). core_of x h) q.after
        ∙ settled_core p [] h w (shard_number q.key) q.seat q.new q.shard q.quit q.hand (hand_quit q.hand q.key false) q.is q.shard_is q.hand_is (open_quitting p q.seat q.hand q.hand_is (inl q.phase)) refl q.keeps q.settles q.sound
        (shard_quit ((core_of p h).shards (shard_number q.key)) w q.key) (q.quits ∙ ap (λ (x : Shard). shard_quit x w q.key) (sym (ap shard_in q.shard_is)));
  }

  pub gives_quits : (r : Quits (setting_of p.load) w false (core_of p h) (core_of p' h)) × ((k : Key) (mode : Mode) → mode_of k r.hand.held ≡ Some mode → is_le (key_cmp r.key k) ≡ true)
  unfolding quits_core
  gives_quits = (quits_core, q.lowest)

  pub gives_stands : (K : List (Act Txn)) → Carried p K h → Invariant (setting_of p.load) K (core_of p' h) → Stands p' K h
  gives_stands K g inv = subst (λ (x : Plain). Stands x K h) (sym q.after)
      (settled_stands p K h w (shard_number q.key) q.seat q.new q.shard q.quit q.hand (hand_quit q.hand q.key false) q.is q.shard_is q.hand_is (open_quitting p q.seat q.hand q.hand_is (inl q.phase)) refl q.keeps q.settles q.sound
      g (subst (λ (x : Plain). Invariant (setting_of p.load) K (core_of x h)) q.after inv))
