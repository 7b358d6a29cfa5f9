-- A worker that rests begins its next call, inside the event that is the call's first.
use Rattle.std.proofs.Common.{ℕ, ◌≡◌, List, [], ◌∷◌, ◌++◌, refl, sym, ap, subst, ◌∙◌, Option, length-set}
use Rattle.std.specs.Prelude.{Some, None}
use Rattle.tau_model.specs.History.{Act, Numbered}
use Rattle.tau_machine.specs.Hands.{Txn, Hand, Freeing, committed_of}
use Rattle.tau_shard.specs.Shard.{at, Shard, entry_in, shard_locked}
use Rattle.tau_machine.specs.Worker.{Worker, begun, begun_by, hand_locked, settled, hand_busy, hand_joined}
use Rattle.tau_machine.specs.State.{Setting, Core, Outbox, Record}
use Rattle.tau_machine.specs.Pieces.{placed_in}
use Rattle.tau_machine.specs.Events.{with_worker, with_shard, ready, Locks, Refuses, Reads}
use Rattle.tau_shard.proofs.At.{at_same}
use Rattle.tau_machine.proofs.States.{again}
use Rattle.tau_model.specs.declared.committed.Committed.{Committed}
use Rattle.tau_txn.specs.Txn.{hand_in, bytes_in}
use Rattle.tau_core.specs.Plain.{PlainSeat}
use Rattle.tau_core.specs.State.{Plain}
use Rattle.tau_core.specs.View.{setting_of, Hidden, committed_by, seat_worker, all_numbered, tickets, core_of}
use Rattle.tau_outbox.specs.Pieces.{PlainOutbox}
use Rattle.tau_machine.proofs.Commits.{begun_committed}
use Rattle.tau_core.specs.Stands.{Stands, SoundSeat, anchors_at}
use Rattle.tau_core.specs.Pieces.{IsPieceOf, Paired}
use Rattle.tau_core.proofs.CallsBegun.{Begins, waiting_in}
use Rattle.tau_core.proofs.Carried.{Carried}
use Rattle.tau_core.proofs.Lists.{each_got}
use Rattle.tau_core.proofs.Seats.{seat_core, worker_of_seat, same_outbox, seat_inside}

pub ready_in_hand : (width : ℕ) (wk : Worker) (h : Hand) → wk.hand ≡ Some h → begun width wk ≡ wk
ready_in_hand width wk h is = ap (λ (o : Option Hand). begun_by width wk o wk.waiting) is

pub begun_again : (width : ℕ) (wk : Worker) → begun width (begun width wk) ≡ begun width wk
begun_again width wk = by_case wk.hand wk.waiting refl refl
  where
    by_case : (o : Option Hand) (cs : List Numbered) → wk.hand ≡ o → wk.waiting ≡ cs → begun width (begun_by width wk o cs) ≡ begun_by width wk o cs
    by_case (Some h) cs is e = ready_in_hand width wk h is
    by_case None [] is e = ap (λ (x : Option Hand × List Numbered). begun_by width wk x.0 x.1) (λ i. (is i, e i))
    by_case None (c ∷ cs) is e = refl

module _ (set : Setting) (s : Core) (w : ℕ) where
  abbrev pub begun_state : Core
  begun_state = with_worker s w (ready set s w)

  pub ready_again : ready set begun_state w ≡ ready set s w
  ready_again = ap (begun set.width) (at_same w (ready set s w) s.workers) ∙ begun_again set.width (s.workers w)

  pub locks_lift : (s' : Core) → Locks set w begun_state s' → Locks set w s s'
  locks_lift s' q =
      let sh : Shard = s.shards (set.shard_of q.key) in
      let hand : Option Hand = Some (hand_locked q.hand q.key q.mode (sh.rows q.key) (entry_in sh q.key).write_lv (entry_in sh q.key).read_lv) in
      let new : Shard = shard_locked sh w q.key q.mode in
      record {
        hand = q.hand;
        key = q.key;
        mode = q.mode;
        is = ap (λ (x : Worker). x.hand) (sym ready_again) ∙ q.is;
        phase = q.phase;
        next = q.next;
        free = q.free;
        after = q.after ∙ ap (λ (x : Worker). with_shard (with_worker begun_state w (record x { hand = hand })) (set.shard_of q.key) new) ready_again
            ∙ ap (λ (c : Core). with_shard c (set.shard_of q.key) new) (again s w (record (ready set s w) { hand = hand }) (ready set s w));
      }

  pub refuses_lift : (s' : Core) → Refuses set w begun_state s' → Refuses set w s s'
  refuses_lift s' q = record {
    hand = q.hand;
    key = q.key;
    mode = q.mode;
    is = ap (λ (x : Worker). x.hand) (sym ready_again) ∙ q.is;
    phase = q.phase;
    next = q.next;
    after = q.after ∙ ap (λ (x : Worker). with_worker begun_state w (settled set.width x (hand_busy q.hand))) ready_again
        ∙ again s w (settled set.width (ready set s w) (hand_busy q.hand)) (ready set s w);
  }

  pub reads_lift : (s' : Core) (t : Act Txn) → Reads set w begun_state s' t → Reads set w s s' t
  reads_lift s' t q =
      let same : (begun_state.workers w).committed ≡ (s.workers w).committed = ap (λ (x : Worker). x.committed) (at_same w (ready set s w) s.workers) ∙ begun_committed set.width (s.workers w) in
      record {
        hand = q.hand;
        effect = q.effect;
        is = ap (λ (x : Worker). x.hand) (sym ready_again) ∙ q.is;
        phase = q.phase;
        ended = q.ended;
        no_write = q.no_write;
        act = q.act;
        after = q.after ∙ ap (λ (x : Worker × List Committed). with_worker begun_state w (record x.0 { hand = Some (hand_joined q.hand (Freeing t) q.hand.dep); committed = x.1 ++ committed_of t ∷ [] })) (λ i. (ready_again i, same i))
            ∙ again s w (record (ready set s w) { hand = Some (hand_joined q.hand (Freeing t) q.hand.dep); committed = (s.workers w).committed ++ committed_of t ∷ [] }) (ready set s w);
      }

module _ (p p' : Plain) (K : List (Act Txn)) (h : Hidden) (w : ℕ) (q : Begins w p p') where
  pub begins_core : core_of p' h ≡ with_worker (core_of p h) w (ready (setting_of p.load) (core_of p h) w)
  begins_core =
      let c : List Committed = committed_by p.load.workers w p.committed in
      let now : Worker = seat_worker p.load q.seat c in
      let shape : now ≡ record { waiting = q.call ∷ waiting_in p.load q.new; hand = None; left = all_numbered p.load.calls q.seat.left; committed = c } =
      λ i. record { waiting = q.next i; hand = q.rests i; left = all_numbered p.load.calls q.seat.left; committed = c } in
      let begins : begun p.load.streams now ≡ seat_worker p.load q.new c =
      ap (begun p.load.streams) shape
      ∙ (λ i. record { waiting = waiting_in p.load q.new; hand = sym q.begun i; left = all_numbered p.load.calls (sym q.left i); committed = c }) in
      ap (λ (x : Plain). core_of x h) q.after ∙ seat_core p h w q.seat q.new q.is
      ∙ ap (λ (x : (ℕ → Outbox) × Worker). record (core_of p h) { workers = at w x.1 (core_of p h).workers; outboxes = x.0 })
      (λ i. (same_outbox p h w q.seat q.new q.is (ap tickets q.pending) i, (sym begins ∙ ap (begun p.load.streams) (sym (worker_of_seat p h w q.seat q.new q.is))) i))

  pub begins_carried : Carried p K h → Carried p' K h
  begins_carried g =
      let within = seat_inside p h w q.seat q.new q.is in
      subst (λ (x : Plain). Carried x K h) (sym q.after) (record {
        sound = record {
          workers_low = g.sound.workers_low;
          workers_high = g.sound.workers_high;
          streams_low = g.sound.streams_low;
          streams_high = g.sound.streams_high;
          few = g.sound.few;
          takes = g.sound.takes;
          opened = g.sound.opened;
          shards = g.sound.shards;
          seats = length-set p.seats w q.new ∙ g.sound.seats;
          streams = g.sound.streams;
          ends = g.sound.ends;
          gathered = g.sound.gathered;
          plv = g.sound.plv;
          seat = each_got (SoundSeat p.load) p.seats w q.new within q.sound g.sound.seat;
          wide = g.sound.wide;
          narrow = g.sound.narrow;
          room = q.rooms;
        };
        order = g.order;
        posted = each_got (λ k (t : PlainSeat). Paired (IsPieceOf p.load (anchors_at p)) t.outbox.pieces (h.posted k)) p.seats w q.new within
            (subst (λ (o : PlainOutbox). Paired (IsPieceOf p.load (anchors_at p)) o.pieces (h.posted w)) (sym q.pieces) (g.posted w q.seat q.is)) g.posted;
        own = g.own;
        placed = λ k x a e f. (each_got (λ l (y : PlainSeat). (b : Act Txn) → placed_in (hand_in p.load.procs y.txn) ≡ Some b → IsPieceOf p.load (anchors_at p) (record { start = y.start; bytes = bytes_in y.txn }) (Record b))
            p.seats w q.new within (λ b d. absurd (let bad : None ≡ Some b = sym (ap placed_in q.begun) ∙ d in cc)) (λ l y d b c. g.placed l y b d c)) k x e a f;
        gathered = g.gathered;
      })

pub carried : (p : Plain) (K : List (Act Txn)) (h : Hidden) → Stands p K h → Carried p K h
carried p K h g = record { sound = g.sound; order = g.order; posted = g.posted; own = g.own; placed = g.placed; gathered = g.gathered }
