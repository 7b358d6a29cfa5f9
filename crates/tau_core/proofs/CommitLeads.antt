-- An updating call gets its place.
use Rattle.std.proofs.Common.{ℕ, zero, suc, ◌+◌, ◌≡◌, ◌⊎◌, inl, inr, List, [], ◌∷◌, ◌++◌, length, refl, sym, ap, subst, ◌∙◌, Option, arith, length-set}
use Rattle.std.specs.Prelude.{Some, max, replicate, slice_get, slice_index, slice_set}
use Rattle.tau_base.specs.Vectors.{join}
use Rattle.tau_model.specs.History.{Act}
use Rattle.tau_model.specs.declared.committed.Committed.{Committed}
use Rattle.tau_machine.specs.Hands.{Txn, Placed, committed_of}
use Rattle.tau_shard.specs.Shard.{at}
use Rattle.tau_machine.specs.Worker.{Worker, hand_joined}
use Rattle.tau_machine.specs.Invariant.{Invariant}
use Rattle.tau_machine.specs.Pieces.{placed_in}
use Rattle.tau_machine.specs.State.{Outbox, Record}
use Rattle.tau_machine.specs.Events as event
use Rattle.tau_machine.specs.Events.{with_worker, ready}
use Rattle.tau_shard.proofs.At.{at_itself}
use Rattle.tau_txn.specs.Txn.{hand_in, bytes_in}
use Rattle.tau_outbox.specs.declared.Piece.{Piece}
use Rattle.tau_core.specs.Plain.{PlainSeat}
use Rattle.tau_core.specs.State.{Plain}
use Rattle.tau_core.specs.View.{setting_of, worker_of, Hidden, committed_by, seat_worker, pending_in, core_of}
use Rattle.tau_core.specs.Stands.{Stands, SoundSeat, anchors_at}
use Rattle.tau_core.specs.Pieces.{Names, IsPieceOf, Paired}
use Rattle.tau_core.proofs.Carried.{Carried}
use Rattle.tau_core.specs.Commits.{Commits, stream_of}
use Rattle.tau_core.proofs.Lists.{reads_got, each_got}
use Rattle.tau_core.proofs.Seats.{worker_of_seat, seat_inside}
use Rattle.tau_core.proofs.Begins.{ready_in_hand}
use Rattle.tau_core.proofs.FreeLeads.{JoinAt, join_one, joined_workers, order_on}
use Rattle.tau_base.proofs.Vectors.{join_none}

pub join_zero : (v : List ℕ) (n : ℕ) → length v ≡ n → join v (replicate n 0) ≡ v
join_zero [] zero e = refl
join_zero [] (suc n) e = absurd (omega arith)
join_zero (a ∷ v) zero e = absurd (omega arith)
join_zero (a ∷ v) (suc n) e =
    let m : max a 0 ≡ a = omega arith in
    let r : join v (replicate n 0) ≡ v = join_zero v n (omega arith) in
    (λ i. m i ∷ r i)

-- the anchor as the machine names it: none, or one of this run
pub record NamedSo (p : Plain) (j number : ℕ) (dep base : List ℕ) : Type 0 where
  pub anchor : List ℕ
  pub named : ((number ≡ 0) × (anchor ≡ [])) ⊎ ((i : ℕ) × (number ≡ slice_index p.load.opening.anchors.items j + i + 1) × (slice_get (anchors_at p j) i ≡ Some anchor))
  pub dep_is : join dep base ≡ join dep anchor

named_so : (p : Plain) (j number : ℕ) (dep base : List ℕ) → length dep ≡ p.load.streams → Names p.load j (anchors_at p j) number base → NamedSo p j number dep base
named_so p j number dep base wide (inl e) = record {
  anchor = [];
  named = inl (e.0, refl);
  dep_is = ap (join dep) e.1 ∙ join_zero dep p.load.streams wide ∙ sym (join_none dep);
}
named_so p j number dep base wide (inr e) = record { anchor = base; named = inr e; dep_is = refl }

module _ (p p' : Plain) (h : Hidden) (w start : ℕ) (q : Commits w start p p') (o : SoundSeat p.load w q.seat) (wide : length q.hand.dep ≡ p.load.streams) where
  abbrev j : ℕ
  j = stream_of p w

  abbrev past : ℕ
  past = start + length (bytes_in q.new.txn)

  commit_hand : ((core_of p h).workers w).hand ≡ Some q.hand
  commit_hand = ap (λ (x : Worker). x.hand) (worker_of_seat p h w q.seat q.new q.is) ∙ q.hand_is

  number_is : worker_of p.load.workers (committed_of q.act).number ≡ w
  number_is = ap (λ (a : Act Txn). worker_of p.load.workers a.call.call.number) q.act_is ∙ o.txn.whose q.hand q.hand_is

  so : NamedSo p j q.number q.hand.dep q.base
  so = named_so p j q.number q.hand.dep q.base wide q.named

  commit_core : core_of p' h ≡ record (with_worker (core_of p h) w (record ((core_of p h).workers w) { hand = Some (hand_joined q.hand (Placed q.act) q.act.call.place.dep); committed = ((core_of p h).workers w).committed ++ committed_of q.act ∷ [] }))
      { ends = slice_set p.ends j past }
  commit_core =
      let c : List Committed = committed_by p.load.workers w p.committed in
      let joins : JoinAt p.load.workers w (committed_of q.act ∷ []) = join_one p.load.workers w (committed_of q.act) number_is in
      let dep_is : join q.hand.dep q.base ≡ q.act.call.place.dep = ap (λ (a : Act Txn). a.call.place.dep) (sym q.act_is) in
      ap (λ (x : Plain). core_of x h) q.after
      ∙ (λ l. record (core_of p h) {
        workers = (joined_workers p h w q.seat q.new (committed_of q.act ∷ []) q.is joins
            ∙ ap (λ (x : Worker). at w x (core_of p h).workers)
            (ap (λ (x : PlainSeat). seat_worker p.load x (c ++ committed_of q.act ∷ [])) q.others
            ∙ (λ k. record (sym (worker_of_seat p h w q.seat q.new q.is) k) {
              hand = (q.placed ∙ ap (λ (d : List ℕ). Some (hand_joined q.hand (Placed q.act) d)) dep_is) k;
              committed = (sym (worker_of_seat p h w q.seat q.new q.is) k).committed ++ committed_of q.act ∷ [];
            }))) l;
        outboxes = (reads_got (λ k (x : Option PlainSeat). record { posted = h.posted k; pending = pending_in x }) p.seats w q.new (seat_inside p h w q.seat q.new q.is)
            ∙ ap (λ (x : Outbox). at w x (core_of p h).outboxes) (λ k. record { posted = h.posted w; pending = (ap (λ (x : PlainSeat). pending_in (Some x)) q.others ∙ ap pending_in (sym q.is)) k })
            ∙ at_itself w (core_of p h).outboxes) l;
        ends = slice_set p.ends j past;
      })

  pub commits : event.Commits (setting_of p.load) w (core_of p h) (core_of p' h) q.act
  commits =
      let rest : ready (setting_of p.load) (core_of p h) w ≡ (core_of p h).workers w = ready_in_hand p.load.streams ((core_of p h).workers w) q.hand commit_hand in
      record {
        hand = q.hand;
        effect = q.effect;
        number = q.number;
        anchor = so.anchor;
        past = past;
        is = ap (λ (x : Worker). x.hand) rest ∙ commit_hand;
        phase = q.phase;
        ended = q.ended;
        locked = q.locked;
        updates = q.updates;
        named = so.named;
        past_start = (let e = q.start_is in let l = q.longer in omega arith);
        act = q.act_is ∙ (λ i. record {
          call = record { call = q.hand.call; worker = w; place = record { stream = j; start = q.start_is i; past = past; dep = so.dep_is i }; anchor = q.number };
          effect = q.effect;
        });
        after = commit_core ∙ ap (λ (x : Worker). record (with_worker (core_of p h) w (record x { hand = Some (hand_joined q.hand (Placed q.act) q.act.call.place.dep); committed = ((core_of p h).workers w).committed ++ committed_of q.act ∷ [] })) { ends = slice_set p.ends j past }) (sym rest);
      }

  pub commit_stands : (K : List (Act Txn)) → Carried p K h → Invariant (setting_of p.load) (K ++ q.act ∷ []) (core_of p' h) → Stands p' (K ++ q.act ∷ []) h
  commit_stands K g inv =
      let within = seat_inside p h w q.seat q.new q.is in
      let n : Plain = record p { seats = slice_set p.seats w q.new; committed = p.committed ++ committed_of q.act ∷ []; room = q.room; ends = slice_set p.ends j past } in
      let inv' : Invariant (setting_of p.load) (K ++ q.act ∷ []) (core_of n h) = subst (λ (x : Plain). Invariant (setting_of p.load) (K ++ q.act ∷ []) (core_of x h)) q.after inv in
      subst (λ (x : Plain). Stands x (K ++ q.act ∷ []) h) (sym q.after) (record {
        sound = record {
          workers_low = g.sound.workers_low;
          workers_high = g.sound.workers_high;
          streams_low = g.sound.streams_low;
          streams_high = g.sound.streams_high;
          few = g.sound.few;
          takes = g.sound.takes;
          opened = g.sound.opened;
          shards = g.sound.shards;
          seats = length-set p.seats w q.new ∙ g.sound.seats;
          streams = g.sound.streams;
          ends = length-set p.ends j past ∙ g.sound.ends;
          gathered = g.sound.gathered;
          plv = g.sound.plv;
          seat = each_got (SoundSeat p.load) p.seats w q.new within q.sound g.sound.seat;
          wide = g.sound.wide;
          narrow = g.sound.narrow;
          room = q.rooms;
        };
        inv = inv';
        order = order_on p.committed (committed_of q.act ∷ []) K (q.act ∷ []) g.order refl;
        posted = each_got (λ k (t : PlainSeat). Paired (IsPieceOf p.load (anchors_at p)) t.outbox.pieces (h.posted k)) p.seats w q.new within
            (subst (λ (x : List Piece). Paired (IsPieceOf p.load (anchors_at p)) x (h.posted w)) (sym q.pieces) (g.posted w q.seat q.is)) g.posted;
        own = g.own;
        placed = λ k x a e f. (each_got (λ l (y : PlainSeat). (b : Act Txn) → placed_in (hand_in p.load.procs y.txn) ≡ Some b → IsPieceOf p.load (anchors_at p) (record { start = y.start; bytes = bytes_in y.txn }) (Record b))
            p.seats w q.new within
            (λ b d.
            let same : Some q.act ≡ Some b = sym (ap placed_in q.placed) ∙ d in
            let act_same : q.act ≡ b = cc in
            subst (λ (y : Act Txn). IsPieceOf p.load (anchors_at p) (record { start = q.new.start; bytes = bytes_in q.new.txn }) (Record y)) act_same q.piece)
            (λ l y d b c. g.placed l y b d c)) k x e a f;
        gathered = g.gathered;
      })
