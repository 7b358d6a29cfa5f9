-- The events of managers and the clerk keep the invariant, and so each event does.
use Rattle.std.proofs.Common.{ℕ, ◌<◌, ◌≡◌, ◌⊎◌, inl, inr, List, [], ◌∷◌, ◌++◌, length, refl, sym, ap, subst, ◌∙◌, arith, length-set, get_or-set_same, get_or-set_other, ◌≤◌, Option}
use Rattle.std.specs.Prelude.{Some, slice_index, slice_set, None}
use Rattle.std.proofs.lemmas.List.{append-nil}
use Rattle.std.proofs.lemmas.Bool.{cases_eq}
use Rattle.tau_model.specs.History.{Act, Member}
use Rattle.tau_base.specs.Vectors.{AtMost}
use Rattle.tau_model.proofs.Orders.{member_put, member_back}
use Rattle.tau_machine.specs.Hands.{Txn}
use Rattle.tau_shard.specs.Shard.{at}
use Rattle.tau_machine.specs.Worker.{Worker}
use Rattle.tau_machine.specs.State.{Setting, Ticket, Item, Record, Anchor, start_of, past_of, Outbox, Stream, Core, hand_of}
use Rattle.tau_machine.specs.Invariant.{CoreGood, Agreement, Stops}
use Rattle.tau_machine.specs.Pieces.{placed_in, PostedAt, Ascending}
use Rattle.tau_machine.specs.Accounts.{Account, Accounts}
use Rattle.tau_machine.specs.Events as event
use Rattle.tau_machine.specs.Events.{with_outbox, Event, Lock, Busy, Quit, Commit, Post, Free, FirstFree, Done, DoneReading, Drop, Gather, PlaceAnchor, Persist, Ack, Stop, Resume, Leads}
use Rattle.tau_base.proofs.Vectors.{at_most_trans, at_most_itself}
use Rattle.tau_shard.proofs.At.{at_same, at_other}
use Rattle.tau_machine.proofs.Commits.{set_up, set_below}
use Rattle.tau_machine.proofs.Frees.{dropped_good}
use Rattle.tau_machine.proofs.Rest.{positions_good, stream_good, anchors_kept, acked_good, resumed_good}
use Rattle.tau_machine.proofs.States.{outbox_moved}
use Rattle.tau_machine.proofs.Pieces.{pieces_kept, chain_member}
use Rattle.tau_machine.proofs.Gathers.{Gathers, gathers_good, gathers_within, anchored_good, anchor_record}
use Rattle.tau_machine.proofs.Accounts.{account_acked, account_resumed}
use Rattle.tau_machine.proofs.Leads.{still_worker, accounts_moved, accounts_worker, lock_kept, busy_kept, quit_kept, commit_kept, reads_kept, post_kept, free_kept, finish_kept}

none : (set : Setting) (K : List (Act Txn)) (s : Core) (new : List (Act Txn)) → new ≡ [] → Agreement set K s → Agreement set (K ++ new) s
none set K s new e g = subst (λ (l : List (Act Txn)). Agreement set l s) (sym (ap (λ (l : List (Act Txn)). K ++ l) e ∙ append-nil K)) g

module _ (set : Setting) (K : List (Act Txn)) (s : Core) (g : Agreement set K s) where
  stops_same : (s' : Core) → ((k : ℕ) → (s'.streams k).stop ≡ (s.streams k).stop) → s'.plv ≡ s.plv → s'.gathered ≡ s.gathered → Stops s'
  stops_same s' stop plv gathered k c e =
      let o = g.stops k c (sym (stop k) ∙ e) in
      let p = ap (λ (v : List ℕ). slice_index v k) plv in
      let r = ap (λ (v : List ℕ). slice_index v k) gathered in
      let low = o.0 in let high = o.1 in
      (omega arith, omega arith)

  stops_gathered : (s' : Core) (j past : ℕ) → (s.streams j).stop ≡ None → slice_index s.gathered j ≤ past → ((k : ℕ) → (s'.streams k).stop ≡ (s.streams k).stop) →
      s'.plv ≡ s.plv → s'.gathered ≡ slice_set s.gathered j past → Stops s'
  stops_gathered s' j past going up stop plv gathered k c e =
      let o = g.stops k c (sym (stop k) ∙ e) in
      let p = ap (λ (v : List ℕ). slice_index v k) plv in
      let r = ap (λ (v : List ℕ). slice_index v k) gathered in
      let more = set_up s.gathered j past up k in
      let low = o.0 in let high = o.1 in
      (omega arith, omega arith)

module _ (set : Setting) (K : List (Act Txn)) (s s' : Core) (g : Agreement set K s) where
  drop_kept : (i : ℕ) (v : List ℕ) → event.Drops set i v s s' → Agreement set K s'
  drop_kept i v q = subst (λ (c : Core). Agreement set K c) (sym q.after) (record {
    good = dropped_good set K s g.good i v q.covered q.shard q.dropped;
    pieces = record {
      stream = λ j lt. let o = g.pieces.stream j lt in record { waiting = o.waiting; moved = o.moved; rest = o.rest; records = o.records; anchors = o.anchors; named = o.named; there = o.there; posted = o.posted; flying = o.flying };
      whose = g.pieces.whose;
      own = g.pieces.own;
      ascending = g.pieces.ascending;
      ascending_own = g.pieces.ascending_own;
      last = g.pieces.last;
      worker = g.pieces.worker;
    };
    stops = g.stops;
    accounts = g.accounts;
  })

  anchor_kept : (j : ℕ) (v : List ℕ) → event.Anchors set j v s s' → Agreement set K s'
  anchor_kept j v q =
      let str : Stream = s.streams j in
      let o : Stream = record str { anchors = str.anchors ++ v ∷ []; posted = str.posted ++ Anchor (slice_index s.ends j) q.past v ∷ [] } in
      let ends : List ℕ = slice_set s.ends j q.past in
      let small : j < length s.ends = (let a = g.good.good.order.count in let b = q.there in omega arith) in
      let up : AtMost s.ends ends = set_up s.ends j q.past (let a = q.past_start in omega arith) in
      let base = positions_good set K s g.good ends s.gathered s.plv up (length-set s.ends j q.past) (at_most_itself s.plv) g.good.persisted (at_most_trans s.gathered s.ends ends g.good.gathered up) (g.good.count_gathered, g.good.count_plv) in
      record {
        good = subst (λ (c : Core). CoreGood set K c) (sym q.after) (stream_good set K (record s { ends = ends }) base j o (anchors_kept set K s g.good j v q.covered));
        pieces = anchored_good set K s s' g.pieces j q.past v (record {
          there = q.there;
          goes = q.past_start;
          moved = λ k. ap (λ (c : Core). (c.streams k).moved) q.after ∙ elim (cases_eq k j) [
            | inl is ↦ subst (λ (x : ℕ). (at j o s.streams x).moved ≡ (s.streams x).moved) (sym is) (ap (λ (b : Stream). b.moved) (at_same j o s.streams))
            | inr ne ↦ ap (λ (b : Stream). b.moved) (at_other j o s.streams k ne)
          ];
          posted = ap (λ (c : Core). (c.streams j).posted) q.after ∙ ap (λ (b : Stream). b.posted) (at_same j o s.streams);
          anchors = ap (λ (c : Core). (c.streams j).anchors) q.after ∙ ap (λ (b : Stream). b.anchors) (at_same j o s.streams);
          posted_other = λ k ne. ap (λ (c : Core). (c.streams k).posted) q.after ∙ ap (λ (b : Stream). b.posted) (at_other j o s.streams k ne);
          anchors_other = λ k ne. ap (λ (c : Core). (c.streams k).anchors) q.after ∙ ap (λ (b : Stream). b.anchors) (at_other j o s.streams k ne);
          outboxes = ap (λ (c : Core). c.outboxes) q.after;
          gathered = ap (λ (c : Core). c.gathered) q.after;
          ends = ap (λ (c : Core). slice_index c.ends j) q.after ∙ get_or-set_same s.ends j q.past 0 small;
          ends_other = λ k ne. ap (λ (c : Core). slice_index c.ends k) q.after ∙ get_or-set_other s.ends j k q.past 0 ne;
          placed = λ u. ap (λ (c : Core). placed_in (hand_of c u)) q.after;
        });
        stops = stops_same set K s g s' (λ k. ap (λ (c : Core). (c.streams k).stop) q.after ∙ elim (cases_eq k j) [
          | inl is ↦ subst (λ (x : ℕ). (at j o s.streams x).stop ≡ (s.streams x).stop) (sym is) (ap (λ (b : Stream). b.stop) (at_same j o s.streams))
          | inr ne ↦ ap (λ (b : Stream). b.stop) (at_other j o s.streams k ne)
        ]) (ap (λ (c : Core). c.plv) q.after) (ap (λ (c : Core). c.gathered) q.after);
        accounts = subst (λ (c : Core). Accounts set c) (sym q.after) g.accounts;
      }

  persist_kept : (j upto : ℕ) → event.Persists set j upto s s' → Agreement set K s'
  persist_kept j upto q =
      let small : j < length s.plv = (let a = g.good.count_plv in let b = q.there in omega arith) in
      let base = positions_good set K s g.good s.ends s.gathered (slice_set s.plv j upto) (at_most_itself s.ends) refl (set_up s.plv j upto q.low)
      (set_below s.plv s.gathered j upto small g.good.persisted q.high) g.good.gathered (g.good.count_gathered, length-set s.plv j upto ∙ g.good.count_plv) in
      subst (λ (c : Core). Agreement set K c) (sym q.after) (record {
        good = base;
        pieces = record {
          stream = λ k lt. let o = g.pieces.stream k lt in record { waiting = o.waiting; moved = o.moved; rest = o.rest; records = o.records; anchors = o.anchors; named = o.named; there = o.there; posted = o.posted; flying = o.flying };
          whose = g.pieces.whose;
          own = g.pieces.own;
          ascending = g.pieces.ascending;
          ascending_own = g.pieces.ascending_own;
          last = g.pieces.last;
          worker = g.pieces.worker;
        };
        stops = λ k c e. elim (cases_eq k j) [
          | inl is ↦ absurd (let a : (s.streams j).stop ≡ Some c = subst (λ (x : ℕ). (s.streams x).stop ≡ Some c) is e in let bad : None ≡ Some c = sym q.going ∙ a in cc)
          | inr ne ↦ let o = g.stops k c e in let p = get_or-set_other s.plv j k upto 0 ne in let low = o.0 in (omega arith, o.1)
        ];
        accounts = g.accounts;
      })

  -- a stream's part changes that is no piece and no anchor
  stop_kept : (j upto : ℕ) → event.Stops set j upto s s' → Agreement set K s'
  stop_kept j upto q =
      let o : Stream = record (s.streams j) { stop = Some upto } in
      let same : (A : Type 0) (f : Stream → A) → f o ≡ f (s.streams j) → (k : ℕ) → f (s'.streams k) ≡ f (s.streams k) = (λ A f e k. ap (λ (c : Core). f (c.streams k)) q.after ∙ elim (cases_eq k j) [
        | inl is ↦ subst (λ (x : ℕ). f (at j o s.streams x) ≡ f (s.streams x)) (sym is) (ap f (at_same j o s.streams) ∙ e)
        | inr ne ↦ ap f (at_other j o s.streams k ne)
      ]) in
      record {
        good = subst (λ (c : Core). CoreGood set K c) (sym q.after) (stream_good set K s g.good j o (g.good.anchors j));
        pieces = pieces_kept set K K s s' (record {
          same = λ k lt. record {
            moved = same (List Item) (λ b. b.moved) refl k;
            own = same (List Item) (λ b. b.posted) refl k;
            anchors = same (List (List ℕ)) (λ b. b.anchors) refl k;
            gathered = ap (λ (c : Core). slice_index c.gathered k) q.after;
            ends = ap (λ (c : Core). slice_index c.ends k) q.after;
            records = refl;
            posted = λ u is. ap (λ (c : Core). (c.outboxes u).posted) q.after;
            placed = λ u is. ap (λ (c : Core). placed_in (hand_of c u)) q.after;
          };
          posted = λ u. ap (λ (c : Core). (c.outboxes u).posted) q.after;
          own = λ k. same (List Item) (λ b. b.posted) refl k;
          placed = λ u. ap (λ (c : Core). placed_in (hand_of c u)) q.after;
        }) g.pieces;
        stops = λ k c e. elim (cases_eq k j) [
          | inl is ↦
              let a : (s'.streams j).stop ≡ Some c = subst (λ (x : ℕ). (s'.streams x).stop ≡ Some c) is e in
              let b : (s'.streams j).stop ≡ Some upto = ap (λ (c : Core). (c.streams j).stop) q.after ∙ ap (λ (b : Stream). b.stop) (at_same j o s.streams) in
              let same : upto ≡ c = (let f : Some upto ≡ Some c = sym b ∙ a in cc) in
              let p = ap (λ (c : Core). slice_index c.plv k) q.after in
              let r = ap (λ (c : Core). slice_index c.gathered k) q.after in
              let low : slice_index s.plv k ≤ upto = subst (λ (x : ℕ). slice_index s.plv x ≤ upto) (sym is) q.low in
              let high : upto ≤ slice_index s.gathered k = subst (λ (x : ℕ). upto ≤ slice_index s.gathered x) (sym is) q.high in
              (omega arith, omega arith)
          | inr ne ↦
              let f : (s.streams k).stop ≡ Some c = sym (ap (λ (c : Core). (c.streams k).stop) q.after ∙ ap (λ (b : Stream). b.stop) (at_other j o s.streams k ne)) ∙ e in
              let p = ap (λ (c : Core). slice_index c.plv k) q.after in
              let r = ap (λ (c : Core). slice_index c.gathered k) q.after in
              let t = g.stops k c f in let low = t.0 in let high = t.1 in
              (omega arith, omega arith)
        ];
        accounts = subst (λ (c : Core). Accounts set c) (sym q.after) g.accounts;
      }

  ack_kept : (w : ℕ) (v : List ℕ) → event.Acks set w v s s' → Agreement set K s'
  ack_kept w v q =
      let o : Outbox = record (s.outboxes w) { pending = q.front ++ q.back } in
      let acked : List Ticket = s.acked w ++ q.ticket ∷ [] in
      let there : Member q.ticket (s.outboxes w).pending = subst (λ (l : List Ticket). Member q.ticket l) (sym q.is) (member_back q.ticket q.front (q.ticket ∷ q.back) (inl refl)) in
      let same : (u : ℕ) → (at w o s.outboxes u).posted ≡ (s.outboxes u).posted = (λ u. elim (cases_eq u w) [
        | inl is ↦ subst (λ (k : ℕ). (at w o s.outboxes k).posted ≡ (s.outboxes k).posted) (sym is) (ap (λ (b : Outbox). b.posted) (at_same w o s.outboxes))
        | inr ne ↦ ap (λ (b : Outbox). b.posted) (at_other w o s.outboxes u ne)
      ]) in
      record {
        good = subst (λ (c : Core). CoreGood set K c) (sym q.after) (acked_good set K s g.good w q.ticket (q.front ++ q.back) there
            (λ i m. subst (λ (l : List Ticket). Member i l) (sym q.is) (member_put q.ticket i q.front q.back m)) (at_most_trans q.ticket.lv v s.plv q.covered q.licensed));
        pieces = pieces_kept set K K s s' (record {
          same = λ k lt. record {
            moved = ap (λ (c : Core). (c.streams k).moved) q.after;
            own = ap (λ (c : Core). (c.streams k).posted) q.after;
            anchors = ap (λ (c : Core). (c.streams k).anchors) q.after;
            gathered = ap (λ (c : Core). slice_index c.gathered k) q.after;
            ends = ap (λ (c : Core). slice_index c.ends k) q.after;
            records = refl;
            posted = λ u is. ap (λ (c : Core). (c.outboxes u).posted) q.after ∙ same u;
            placed = λ u is. ap (λ (c : Core). placed_in (hand_of c u)) q.after;
          };
          posted = λ u. ap (λ (c : Core). (c.outboxes u).posted) q.after ∙ same u;
          own = λ k. ap (λ (c : Core). (c.streams k).posted) q.after;
          placed = λ u. ap (λ (c : Core). placed_in (hand_of c u)) q.after;
        }) g.pieces;
        stops = subst (λ (c : Core). Stops c) (sym q.after) g.stops;
        accounts = accounts_moved set s s' w (λ u ne. ap (λ (c : Core). c.workers u) q.after)
            (λ u ne. ap (λ (c : Core). (c.outboxes u).pending) q.after ∙ ap (λ (b : Outbox). b.pending) (at_other w o s.outboxes u ne))
            (λ u ne. ap (λ (c : Core). c.acked u) q.after ∙ at_other w acked s.acked u ne)
            (subst (λ (c : Core). Account set w (c.workers w) (c.outboxes w).pending (c.acked w)) (sym q.after)
            (subst (λ (b : Outbox). Account set w (s.workers w) b.pending (at w acked s.acked w)) (sym (at_same w o s.outboxes))
            (subst (λ (l : List Ticket). Account set w (s.workers w) (q.front ++ q.back) l) (sym (at_same w acked s.acked))
            (account_acked set w (s.workers w) q.front q.ticket q.back (s.acked w) (subst (λ (l : List Ticket). Account set w (s.workers w) l (s.acked w)) q.is (g.accounts w)))))) g.accounts;
      }

  resume_kept : (w : ℕ) → event.Resumes set w s s' → Agreement set K s'
  resume_kept w q =
      let wk : Worker = record (s.workers w) { waiting = q.call ∷ []; left = q.front ++ q.back } in
      record {
        good = subst (λ (c : Core). CoreGood set K c) (sym q.after) (resumed_good set K s g.good w (q.call ∷ []) (q.front ++ q.back));
        pieces = pieces_kept set K K s s' (still_worker set K K s s' w wk (ap (λ (c : Core). c.workers) q.after) refl
            (λ u. ap (λ (c : Core). (c.outboxes u).posted) q.after) (ap (λ (c : Core). c.streams) q.after) (ap (λ (c : Core). c.gathered) q.after) (ap (λ (c : Core). c.ends) q.after) (λ j. refl)) g.pieces;
        stops = subst (λ (c : Core). Stops c) (sym q.after) g.stops;
        accounts = accounts_worker set s s' w wk (ap (λ (c : Core). c.workers) q.after) (ap (λ (c : Core). c.outboxes) q.after) (ap (λ (c : Core). c.acked) q.after)
            (account_resumed set w (s.workers w) q.front q.call q.back (s.outboxes w).pending (s.acked w) (q.resting w).1 q.is (g.accounts w)) g.accounts;
      }

  module _ (j w : ℕ) (q : event.GathersRecord set j w s s') where
    abbrev box : Outbox
    box = record (s.outboxes w) { posted = q.others }

    abbrev str : Stream
    str = record (s.streams j) { moved = (s.streams j).moved ++ q.item ∷ [] }

    abbrev gone_to : List ℕ
    gone_to = slice_set s.gathered j (past_of q.item)

    small : j < length s.gathered
    small = let a = g.good.count_gathered in let b = q.there in omega arith

    front : Member q.item (s.outboxes w).posted
    front = subst (λ (l : List Item). Member q.item l) (sym q.is) (inl refl)

    outbox_is : (u : ℕ) → (s'.outboxes u).posted ≡ (at w box s.outboxes u).posted
    outbox_is u = ap (λ (c : Core). (c.outboxes u).posted) q.after

    stream_is : (A : Type 0) (f : Stream → A) → f str ≡ f (s.streams j) → (k : ℕ) → f (s'.streams k) ≡ f (s.streams k)
    stream_is A f e k = ap (λ (c : Core). f (c.streams k)) q.after ∙ elim (cases_eq k j) [
      | inl is ↦ subst (λ (x : ℕ). f (at j str s.streams x) ≡ f (s.streams x)) (sym is) (ap f (at_same j str s.streams) ∙ e)
      | inr ne ↦ ap f (at_other j str s.streams k ne)
    ]

    -- what is in an outbox now
    now_in : (u : ℕ) (k : Item) → Member k (s'.outboxes u).posted → ((u ≡ w) × Member k q.others) ⊎ ((u ≡ w → ⊥) × Member k (s.outboxes u).posted)
    now_in u k m = elim (cases_eq u w) [
      | inl is ↦ inl (is, subst (λ (b : Outbox). Member k b.posted) (ap (at w box s.outboxes) is ∙ at_same w box s.outboxes) (subst (λ (l : List Item). Member k l) (outbox_is u) m))
      | inr ne ↦ inr (ne, subst (λ (b : Outbox). Member k b.posted) (at_other w box s.outboxes u ne) (subst (λ (l : List Item). Member k l) (outbox_is u) m))
    ]

    others_in : (k : Item) → Member k q.others → Member k (s'.outboxes w).posted
    others_in k m = subst (λ (l : List Item). Member k l) (sym (outbox_is w)) (subst (λ (b : Outbox). Member k b.posted) (sym (at_same w box s.outboxes)) m)

    other_in : (u : ℕ) (k : Item) → (u ≡ w → ⊥) → Member k (s.outboxes u).posted → Member k (s'.outboxes u).posted
    other_in u k ne m = subst (λ (l : List Item). Member k l) (sym (outbox_is u)) (subst (λ (b : Outbox). Member k b.posted) (sym (at_other w box s.outboxes u ne)) m)

    old_in : (u : ℕ) (k : Item) → Member k (s'.outboxes u).posted → Member k (s.outboxes u).posted
    old_in u k m = elim (now_in u k m) [
      | inl p ↦ subst (λ (x : ℕ). Member k (s.outboxes x).posted) (sym p.0) (subst (λ (l : List Item). Member k l) (sym q.is) (inr p.1))
      | inr p ↦ p.1
    ]

    -- the piece goes on over its start
    item_goes : start_of q.item < past_of q.item
    item_goes =
        let o = g.pieces.stream j q.there in
        (chain_member (slice_index s.gathered j) (slice_index s.ends j) o.waiting q.item o.rest (o.posted q.item (inl (w, q.whose, front)))).1

    ascends : Ascending (q.item ∷ q.others)
    ascends = subst Ascending q.is (g.pieces.ascending w)

    not_now : PostedAt set s' j q.item → ⊥
    not_now (inl (u, is, m)) = elim (now_in u q.item m) [
      | inl p ↦ let low = ascends.0 q.item p.1 in let goes = item_goes in absurd (omega arith)
      | inr p ↦
          let (t, e, by) = g.pieces.whose u q.item p.1 in
          let (r, f, of) = g.pieces.whose w q.item front in
          let same : t ≡ r = (let x : ◌≡◌ {A = Item} (Record t) (Record r) = sym e ∙ f in cc) in
          p.0 (sym by ∙ ap (λ (x : Act Txn). x.call.worker) same ∙ of)
    ]
    not_now (inr m) =
        let (a, b, v, e) = g.pieces.own j q.item (subst (λ (l : List Item). Member q.item l) (stream_is (List Item) (λ x. x.posted) refl j) m) in
        let (t, f, by) = g.pieces.whose w q.item front in
        anchor_record a b v t (sym e ∙ f)

    gathers : Gathers set K s s' g.pieces j q.item
    gathers = record {
      there = q.there;
      is = inl (w, q.whose, front);
      start = q.start;
      moved = ap (λ (c : Core). (c.streams j).moved) q.after ∙ ap (λ (x : Stream). x.moved) (at_same j str s.streams);
      moved_other = λ k ne. ap (λ (c : Core). (c.streams k).moved) q.after ∙ ap (λ (x : Stream). x.moved) (at_other j str s.streams k ne);
      anchors = stream_is (List (List ℕ)) (λ x. x.anchors) refl;
      gathered = ap (λ (c : Core). slice_index c.gathered j) q.after ∙ get_or-set_same s.gathered j (past_of q.item) 0 small;
      gathered_other = λ k ne. ap (λ (c : Core). slice_index c.gathered k) q.after ∙ get_or-set_other s.gathered j k (past_of q.item) 0 ne;
      ends = ap (λ (c : Core). c.ends) q.after;
      placed = λ u. ap (λ (c : Core). placed_in (hand_of c u)) q.after;
      less = old_in;
      less_own = λ l k m. subst (λ (x : List Item). Member k x) (stream_is (List Item) (λ x. x.posted) refl l) m;
      still = λ k p. elim p [
        | inl b ↦ elim (cases_eq b.0 w) [
          | inl is ↦ elim (subst (λ (l : List Item). Member k l) q.is (subst (λ (x : ℕ). Member k (s.outboxes x).posted) is b.2)) [
            | inl e ↦ inl e
            | inr m ↦ inr (inl (w, ap set.stream_of (sym is) ∙ b.1, others_in k m))
          ]
          | inr ne ↦ inr (inl (b.0, b.1, other_in b.0 k ne b.2))
        ]
        | inr b ↦ inr (inr (subst (λ (x : List Item). Member k x) (sym (stream_is (List Item) (λ x. x.posted) refl j)) b))
      ];
      gone = not_now;
      posted_other = λ u ne. outbox_is u ∙ ap (λ (b : Outbox). b.posted) (at_other w box s.outboxes u (λ e. ne (ap set.stream_of e ∙ q.whose)));
      own_other = λ k ne. stream_is (List Item) (λ x. x.posted) refl k;
      ascending = λ u. elim (cases_eq u w) [
        | inl is ↦ subst (λ (x : ℕ). Ascending (s'.outboxes x).posted) (sym is) (subst Ascending (sym (outbox_is w ∙ ap (λ (b : Outbox). b.posted) (at_same w box s.outboxes))) ascends.1)
        | inr ne ↦ subst Ascending (sym (outbox_is u ∙ ap (λ (b : Outbox). b.posted) (at_other w box s.outboxes u ne))) (g.pieces.ascending u)
      ];
      ascending_own = λ k. subst Ascending (sym (stream_is (List Item) (λ x. x.posted) refl k)) (g.pieces.ascending_own k);
    }

    pub gather_kept : Agreement set K s'
    gather_kept =
        let (low, high) = gathers_within set K s s' g.pieces j q.item gathers in
        let up : AtMost s.gathered gone_to = set_up s.gathered j (past_of q.item) (omega arith) in
        let base = positions_good set K s g.good s.ends gone_to s.plv (at_most_itself s.ends) refl (at_most_itself s.plv) (at_most_trans s.plv s.gathered gone_to g.good.persisted up)
        (set_below s.gathered s.ends j (past_of q.item) small g.good.gathered high) (length-set s.gathered j (past_of q.item) ∙ g.good.count_gathered, g.good.count_plv) in
        record {
          good = subst (λ (c : Core). CoreGood set K c) (sym q.after) (stream_good set K (record (with_outbox s w box) { gathered = gone_to })
              (outbox_moved set K (record s { gathered = gone_to }) base w box (λ k m. g.good.pending w k m)) j str (g.good.anchors j));
          pieces = gathers_good set K s s' g.pieces j q.item gathers;
          stops = stops_gathered set K s g s' j (past_of q.item) q.going (let l = low in omega arith) (stream_is (Option ℕ) (λ x. x.stop) refl) (ap (λ (c : Core). c.plv) q.after) (ap (λ (c : Core). c.gathered) q.after);
          accounts = accounts_moved set s s' w (λ u ne. ap (λ (c : Core). c.workers u) q.after)
              (λ u ne. ap (λ (c : Core). (c.outboxes u).pending) q.after ∙ ap (λ (b : Outbox). b.pending) (at_other w box s.outboxes u ne))
              (λ u ne. ap (λ (c : Core). c.acked u) q.after)
              (subst (λ (c : Core). Account set w (c.workers w) (c.outboxes w).pending (c.acked w)) (sym q.after)
              (subst (λ (b : Outbox). Account set w (s.workers w) b.pending (s.acked w)) (sym (at_same w box s.outboxes)) (g.accounts w))) g.accounts;
        }

  module _ (j : ℕ) (q : event.GathersAnchor set j s s') where
    abbrev own_str : Stream
    own_str = record (s.streams j) { posted = q.others; moved = (s.streams j).moved ++ q.item ∷ [] }

    abbrev own_to : List ℕ
    own_to = slice_set s.gathered j (past_of q.item)

    own_small : j < length s.gathered
    own_small = let a = g.good.count_gathered in let b = q.there in omega arith

    own_front : Member q.item (s.streams j).posted
    own_front = subst (λ (l : List Item). Member q.item l) (sym q.is) (inl refl)

    own_is : (s'.streams j).posted ≡ q.others
    own_is = ap (λ (c : Core). (c.streams j).posted) q.after ∙ ap (λ (x : Stream). x.posted) (at_same j own_str s.streams)

    other_own : (k : ℕ) → (k ≡ j → ⊥) → s'.streams k ≡ s.streams k
    other_own k ne = ap (λ (c : Core). c.streams k) q.after ∙ at_other j own_str s.streams k ne

    own_goes : start_of q.item < past_of q.item
    own_goes =
        let o = g.pieces.stream j q.there in
        (chain_member (slice_index s.gathered j) (slice_index s.ends j) o.waiting q.item o.rest (o.posted q.item (inr own_front))).1

    own_ascends : Ascending (q.item ∷ q.others)
    own_ascends = subst Ascending q.is (g.pieces.ascending_own j)

    own_stop : (k : ℕ) → (s'.streams k).stop ≡ (s.streams k).stop
    own_stop k = elim (cases_eq k j) [
      | inl is ↦ subst (λ (x : ℕ). (s'.streams x).stop ≡ (s.streams x).stop) (sym is) (ap (λ (c : Core). (c.streams j).stop) q.after ∙ ap (λ (x : Stream). x.stop) (at_same j own_str s.streams))
      | inr ne ↦ ap (λ (x : Stream). x.stop) (other_own k ne)
    ]

    own_boxes : (u : ℕ) → (s'.outboxes u).posted ≡ (s.outboxes u).posted
    own_boxes u = ap (λ (c : Core). (c.outboxes u).posted) q.after

    own_gathers : Gathers set K s s' g.pieces j q.item
    own_gathers = record {
      there = q.there;
      is = inr own_front;
      start = q.start;
      moved = ap (λ (c : Core). (c.streams j).moved) q.after ∙ ap (λ (x : Stream). x.moved) (at_same j own_str s.streams);
      moved_other = λ k ne. ap (λ (x : Stream). x.moved) (other_own k ne);
      anchors = λ k. elim (cases_eq k j) [
        | inl is ↦ subst (λ (x : ℕ). (s'.streams x).anchors ≡ (s.streams x).anchors) (sym is) (ap (λ (c : Core). (c.streams j).anchors) q.after ∙ ap (λ (x : Stream). x.anchors) (at_same j own_str s.streams))
        | inr ne ↦ ap (λ (x : Stream). x.anchors) (other_own k ne)
      ];
      gathered = ap (λ (c : Core). slice_index c.gathered j) q.after ∙ get_or-set_same s.gathered j (past_of q.item) 0 own_small;
      gathered_other = λ k ne. ap (λ (c : Core). slice_index c.gathered k) q.after ∙ get_or-set_other s.gathered j k (past_of q.item) 0 ne;
      ends = ap (λ (c : Core). c.ends) q.after;
      placed = λ u. ap (λ (c : Core). placed_in (hand_of c u)) q.after;
      less = λ u k m. subst (λ (l : List Item). Member k l) (own_boxes u) m;
      less_own = λ l k m. elim (cases_eq l j) [
        | inl is ↦ subst (λ (x : ℕ). Member k (s.streams x).posted) (sym is) (subst (λ (x : List Item). Member k x) (sym q.is)
            (inr (subst (λ (x : List Item). Member k x) own_is (subst (λ (x : ℕ). Member k (s'.streams x).posted) is m))))
        | inr ne ↦ subst (λ (x : Stream). Member k x.posted) (other_own l ne) m
      ];
      still = λ k p. elim p [
        | inl b ↦ inr (inl (b.0, b.1, subst (λ (l : List Item). Member k l) (sym (own_boxes b.0)) b.2))
        | inr b ↦ elim (subst (λ (l : List Item). Member k l) q.is b) [
          | inl e ↦ inl e
          | inr m ↦ inr (inr (subst (λ (l : List Item). Member k l) (sym own_is) m))
        ]
      ];
      gone = λ p. elim p [
        | inl b ↦
            let (t, f, by) = g.pieces.whose b.0 q.item (subst (λ (l : List Item). Member q.item l) (own_boxes b.0) b.2) in
            let (x, y, v, e) = g.pieces.own j q.item own_front in
            anchor_record x y v t (sym e ∙ f)
        | inr m ↦ let low = own_ascends.0 q.item (subst (λ (l : List Item). Member q.item l) own_is m) in let goes = own_goes in absurd (omega arith)
      ];
      posted_other = λ u ne. own_boxes u;
      own_other = λ k ne. ap (λ (x : Stream). x.posted) (other_own k ne);
      ascending = λ u. subst Ascending (sym (own_boxes u)) (g.pieces.ascending u);
      ascending_own = λ k. elim (cases_eq k j) [
        | inl is ↦ subst (λ (x : ℕ). Ascending (s'.streams x).posted) (sym is) (subst Ascending (sym own_is) own_ascends.1)
        | inr ne ↦ subst (λ (x : Stream). Ascending x.posted) (sym (other_own k ne)) (g.pieces.ascending_own k)
      ];
    }

    pub gather_anchor_kept : Agreement set K s'
    gather_anchor_kept =
        let (low, high) = gathers_within set K s s' g.pieces j q.item own_gathers in
        let up : AtMost s.gathered own_to = set_up s.gathered j (past_of q.item) (omega arith) in
        let base = positions_good set K s g.good s.ends own_to s.plv (at_most_itself s.ends) refl (at_most_itself s.plv) (at_most_trans s.plv s.gathered own_to g.good.persisted up)
        (set_below s.gathered s.ends j (past_of q.item) own_small g.good.gathered high) (length-set s.gathered j (past_of q.item) ∙ g.good.count_gathered, g.good.count_plv) in
        record {
          good = subst (λ (c : Core). CoreGood set K c) (sym q.after) (stream_good set K (record s { gathered = own_to }) base j own_str (g.good.anchors j));
          pieces = gathers_good set K s s' g.pieces j q.item own_gathers;
          stops = stops_gathered set K s g s' j (past_of q.item) q.going (let l = low in omega arith) own_stop (ap (λ (c : Core). c.plv) q.after) (ap (λ (c : Core). c.gathered) q.after);
          accounts = subst (λ (c : Core). Accounts set c) (sym q.after) g.accounts;
        }

gathered_kept : (set : Setting) (K : List (Act Txn)) (j : ℕ) (s s' : Core) → Agreement set K s → event.Gathered set j s s' → Agreement set K s'
gathered_kept set K j s s' g event.stop = g
gathered_kept set K j s s' g (event.record_first {m = m} w q r) = gathered_kept set K j m s' (gather_kept set K s m g j w q) r
gathered_kept set K j s s' g (event.anchor_first {m = m} q r) = gathered_kept set K j m s' (gather_anchor_kept set K s m g j q) r

-- each event keeps the invariant
pub leads_kept : (set : Setting) (K : List (Act Txn)) (e : Event) (s s' : Core) (new : List (Act Txn)) → Agreement set K s → Leads set e s s' new → Agreement set (K ++ new) s'
leads_kept set K (Lock w) s s' new g (q, e) = none set K s' new e (lock_kept set K s s' g w q)
leads_kept set K (Busy w) s s' new g (q, e) = none set K s' new e (busy_kept set K s s' g w q)
leads_kept set K (Quit w up) s s' new g (q, e) = none set K s' new e (quit_kept set K s s' g w up q)
leads_kept set K (Commit w) s s' new g (t, q, e) = subst (λ (l : List (Act Txn)). Agreement set (K ++ l) s') (sym e) (commit_kept set K s s' g w t q)
leads_kept set K (Post w) s s' new g (q, e) = none set K s' new e (post_kept set K s s' g w q)
leads_kept set K (Free w) s s' new g (q, e) = none set K s' new e (free_kept set K s s' g w q)
leads_kept set K (FirstFree w) s s' new g (m, t, r, q, e) =
    subst (λ (l : List (Act Txn)). Agreement set (K ++ l) s') (sym e) (free_kept set (K ++ t ∷ []) m s' (reads_kept set K s m g w t r) w q)
leads_kept set K (Done w) s s' new g (q, e) = none set K s' new e (finish_kept set K s s' g w q)
leads_kept set K (DoneReading w) s s' new g (m, t, r, q, e) =
    subst (λ (l : List (Act Txn)). Agreement set (K ++ l) s') (sym e) (finish_kept set (K ++ t ∷ []) m s' (reads_kept set K s m g w t r) w q)
leads_kept set K (Drop i v) s s' new g (q, e) = none set K s' new e (drop_kept set K s s' g i v q)
leads_kept set K (Gather j) s s' new g (q, e) = none set K s' new e (gathered_kept set K j s s' g q)
leads_kept set K (PlaceAnchor j v) s s' new g (q, e) = none set K s' new e (anchor_kept set K s s' g j v q)
leads_kept set K (Persist j upto) s s' new g (q, e) = none set K s' new e (persist_kept set K s s' g j upto q)
leads_kept set K (Ack w v) s s' new g (q, e) = none set K s' new e (ack_kept set K s s' g w v q)
leads_kept set K (Stop j upto) s s' new g (q, e) = none set K s' new e (stop_kept set K s s' g j upto q)
leads_kept set K (Resume w) s s' new g (q, e) = none set K s' new e (resume_kept set K s s' g w q)
