-- A lock that is taken.
use Rattle.std.proofs.Common.{ℕ, ◌≡◌, ◌≤◌, true, false, List, sym, ap, subst, ◌∙◌, Option, arith, length-set}
use Rattle.std.specs.Prelude.{Some, None, slice_set}
use Rattle.std.proofs.lemmas.Option.{slice_get_within}
use Rattle.tau_base.specs.declared.value.Value.{Value}
use Rattle.tau_base.specs.Shards.{shard_number}
use Rattle.tau_model.specs.History.{Act}
use Rattle.tau_model.specs.declared.committed.Committed.{Committed}
use Rattle.tau_machine.specs.Hands.{Txn, Hand, Running}
use Rattle.tau_shard.specs.Shard.{at, Shard, entry_in, shard_locked}
use Rattle.tau_machine.specs.Worker.{Worker, hand_locked}
use Rattle.tau_machine.specs.Invariant.{Invariant}
use Rattle.tau_machine.specs.Pieces.{placed_in, placed_of}
use Rattle.tau_machine.specs.Shapes.{ShardShape}
use Rattle.tau_machine.specs.State.{Record}
use Rattle.tau_machine.specs.Events.{with_worker, with_shard, ready, Locks}
use Rattle.tau_shard.specs.Plain.{PlainShard}
use Rattle.tau_shard.specs.Read.{shard_of}
use Rattle.tau_shard.specs.Blocks.{blocks}
use Rattle.tau_txn.specs.Txn.{hand_in, bytes_in}
use Rattle.tau_core.specs.Plain.{PlainSeat}
use Rattle.tau_core.specs.State.{Plain}
use Rattle.tau_core.specs.View.{setting_of, Hidden, shard_in, committed_by, seat_worker, tickets, core_of}
use Rattle.tau_core.specs.Stands.{is_open, Stands, Sound, anchors_at}
use Rattle.tau_core.specs.Pieces.{IsPieceOf, Paired}
use Rattle.tau_core.proofs.Carried.{Carried}
use Rattle.tau_core.specs.Workers.{Takes}
use Rattle.tau_core.proofs.Lists.{reads_got, each_got}
use Rattle.tau_core.proofs.Seats.{seat_core, worker_of_seat, same_outbox, seat_inside, seat_sound, one_open}
use Rattle.tau_core.proofs.Begins.{ready_in_hand}
use Rattle.tau_machine.proofs.Conflicts.{no_conflict}
use Rattle.tau_machine.proofs.Leads.{locked_phase}

pub open_running : (o : Option Hand) (h : Hand) → o ≡ Some h → h.phase ≡ Running → is_open o ≡ true
open_running o h e f = ap is_open e ∙ ap (λ p. is_open (Some (record h { phase = p }))) f

pub unplaced_running : (o : Option Hand) (h : Hand) → o ≡ Some h → h.phase ≡ Running → placed_in o ≡ None
unplaced_running o h e f = ap placed_in e ∙ ap placed_of f

module _ (p p' : Plain) (h : Hidden) (w : ℕ) (value : Value) (q : Takes w value p p') where
  abbrev i : ℕ
  i = shard_number q.key

  worker_hand : ((core_of p h).workers w).hand ≡ Some q.hand
  worker_hand = ap (λ (x : Worker). x.hand) (worker_of_seat p h w q.seat q.new q.is) ∙ q.wants.is

  is_ready : ready (setting_of p.load) (core_of p h) w ≡ (core_of p h).workers w
  is_ready = ready_in_hand p.load.streams ((core_of p h).workers w) q.hand worker_hand

  shard_is_that : (core_of p h).shards i ≡ shard_of q.shard
  shard_is_that = ap shard_in q.shard_is

  locks_after : core_of p' h ≡ with_shard (with_worker (core_of p h) w (record (ready (setting_of p.load) (core_of p h) w) {
    hand = Some (hand_locked q.hand q.key q.mode (((core_of p h).shards i).rows q.key) (entry_in ((core_of p h).shards i) q.key).write_lv (entry_in ((core_of p h).shards i) q.key).read_lv);
  })) i (shard_locked ((core_of p h).shards i) w q.key q.mode)
  locks_after =
      let c : List Committed = committed_by p.load.workers w p.committed in
      let shards : Plain = record p { shards = slice_set p.shards i q.locked } in
      let new : seat_worker p.load q.new c ≡ record (seat_worker p.load q.seat c) { hand = hand_in p.load.procs q.new.txn } = ap (λ (x : PlainSeat). seat_worker p.load x c) q.others in
      ap (λ (x : Plain). core_of x h) q.after ∙ seat_core shards h w q.seat q.new q.is
      ∙ (λ k. record (core_of p h) {
        workers = at w ((new ∙ (λ l. record (sym (worker_of_seat p h w q.seat q.new q.is) l) { hand = q.granted l })
            ∙ (λ l. record (sym is_ready l) { hand = Some (hand_locked q.hand q.key q.mode ((sym shard_is_that l).rows q.key) (entry_in (sym shard_is_that l) q.key).write_lv (entry_in (sym shard_is_that l) q.key).read_lv) })) k) (core_of p h).workers;
        outboxes = same_outbox p h w q.seat q.new q.is (ap (λ (x : PlainSeat). tickets x.pending.calls) q.others) k;
        shards = (reads_got (λ j (o : Option PlainShard). shard_in o) p.shards i q.locked (slice_get_within p.shards i q.shard q.shard_is)
            ∙ ap (λ (x : Shard). at i x (core_of p h).shards) (q.locks ∙ ap (λ (x : Shard). shard_locked x w q.key q.mode) (sym shard_is_that))) k;
      })

  pub takes_is : (ready (setting_of p.load) (core_of p h) w).hand ≡ Some q.hand
  takes_is = ap (λ (x : Worker). x.hand) is_ready ∙ worker_hand

  pub takes_locks : Locks (setting_of p.load) w (core_of p h) (core_of p' h)
  takes_locks = record {
    hand = q.hand;
    key = q.key;
    mode = q.mode;
    is = ap (λ (x : Worker). x.hand) is_ready ∙ worker_hand;
    phase = q.wants.phase;
    next = q.wants.next;
    free = λ c. no_conflict (setting_of p.load) ((core_of p h).shards i) w q.key q.mode (subst (λ (x : Shard). (u : ℕ) → blocks (entry_in x q.key) w q.mode u ≡ false) (sym shard_is_that) q.free) c;
    after = locks_after;
  }

  pub takes_stands : (K : List (Act Txn)) → Carried p K h → Invariant (setting_of p.load) K (core_of p' h) → Stands p' K h
  takes_stands K g inv =
      let hand_phase = locked_phase q.hand q.key q.mode ((shard_of q.shard).rows q.key) (entry_in (shard_of q.shard) q.key).write_lv (entry_in (shard_of q.shard) q.key).read_lv ∙ q.wants.phase in
      let opens : one_open p.load q.new ≤ one_open p.load q.seat =
      (let a = open_running (hand_in p.load.procs q.new.txn) _ q.granted hand_phase in
      let b = open_running (hand_in p.load.procs q.seat.txn) q.hand q.wants.is q.wants.phase in
      rw (a, b) (omega arith)) in
      let r : Sound (record p { seats = slice_set p.seats w q.new }) = seat_sound p h w q.seat q.new q.is g.sound q.sound opens in
      let within = seat_inside p h w q.seat q.new q.is in
      let inv' : Invariant (setting_of p.load) K (core_of (record p { seats = slice_set p.seats w q.new; shards = slice_set p.shards i q.locked }) h) =
      subst (λ (x : Plain). Invariant (setting_of p.load) K (core_of x h)) q.after inv in
      subst (λ (x : Plain). Stands x K h) (sym q.after) (record {
        sound = record {
          workers_low = r.workers_low;
          workers_high = r.workers_high;
          streams_low = r.streams_low;
          streams_high = r.streams_high;
          few = r.few;
          takes = r.takes;
          opened = r.opened;
          shards = length-set p.shards i q.locked ∙ g.sound.shards;
          seats = r.seats;
          streams = r.streams;
          ends = r.ends;
          gathered = r.gathered;
          plv = r.plv;
          seat = r.seat;
          wide = r.wide;
          narrow = λ k sh e. subst (λ (x : Shard). ShardShape (setting_of p.load) x) (ap shard_in e) (inv'.shapes.shards k);
          room = r.room;
        };
        inv = inv';
        order = g.order;
        posted = each_got (λ k (t : PlainSeat). Paired (IsPieceOf p.load (anchors_at p)) t.outbox.pieces (h.posted k)) p.seats w q.new within
            (subst (λ (x : PlainSeat). Paired (IsPieceOf p.load (anchors_at p)) x.outbox.pieces (h.posted w)) (sym q.others) (g.posted w q.seat q.is)) g.posted;
        own = g.own;
        placed = λ k x a e f. (each_got (λ l (y : PlainSeat). (b : Act Txn) → placed_in (hand_in p.load.procs y.txn) ≡ Some b → IsPieceOf p.load (anchors_at p) (record { start = y.start; bytes = bytes_in y.txn }) (Record b))
            p.seats w q.new within (λ b d. absurd (let bad : None ≡ Some b = sym (unplaced_running (hand_in p.load.procs q.new.txn) _ q.granted hand_phase) ∙ d in cc)) (λ l y d b c. g.placed l y b d c)) k x e a f;
        gathered = g.gathered;
      })
