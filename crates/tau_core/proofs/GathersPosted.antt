-- Gather, from the outbox of a worker.
use Rattle.std.proofs.Common.{ℕ, ◌+◌, ◌%◌, ◌<◌, ◌≤◌, ◌≡◌, inl, List, [], ◌++◌, length, refl, sym, ap, subst, ◌∙◌, Option, append_assoc, arith, length-set, get_or-set_same}
use Rattle.std.specs.Prelude.{Some, None, slice_get, slice_index, slice_set}
use Rattle.std.proofs.lemmas.Option.{slice_get_within}
use Rattle.std.proofs.Math.Path.{fun_ext}
use Rattle.tau_model.specs.History.{Act, Member}
use Rattle.tau_machine.specs.Hands.{Txn}
use Rattle.tau_shard.specs.Shard.{at}
use Rattle.tau_machine.specs.State.{Core, Stream, Outbox, Item, Record, start_of, past_of}
use Rattle.tau_machine.specs.Pieces.{Chain, placed_in}
use Rattle.tau_machine.specs.Events.{Gathered, Leads, Gather}
use Rattle.tau_shard.proofs.At.{at_same, at_other}
use Rattle.tau_machine.proofs.Pieces.{chain_member}
use Rattle.tau_model.proofs.Orders.{member_front}
use Rattle.tau_outbox.specs.declared.Piece.{Piece}
use Rattle.tau_outbox.specs.Pieces.{PlainOutbox, bytes_of}
use Rattle.tau_txn.specs.Txn.{hand_in, bytes_in}
use Rattle.tau_core.specs.Plain.{PlainSeat, PlainStream}
use Rattle.tau_core.specs.State.{Plain}
use Rattle.tau_core.specs.View.{setting_of, Hidden, anchors_in, stop_in, pending_in, worker_in, committed_by, core_of}
use Rattle.tau_core.specs.Stands.{Stands, Sound, SoundSeat, anchors_at, SoundStream}
use Rattle.tau_core.specs.Pieces.{IsPieceOf, Paired, Spelled}
use Rattle.tau_core.specs.Gather.{Moves}
use Rattle.tau_core.proofs.Lists.{reads_changed, reads_same, each_got, each_else, got_same}
use Rattle.tau_core.proofs.Seats.{seat_sound, seat_inside, seat_core, same_worker}
use Rattle.tau_core.proofs.PersistLeads.{kept}
use Rattle.tau_core.proofs.GatheredItems.{posted_moved, posted_is_moved, posted_none}
use Rattle.tau_core.proofs.Spellings.{moved_within, Split, paired_split, chain_of, spelled_pieces, spelled_append, chain_still}

module _ (p : Plain) (K : List (Act Txn)) (h : Hidden) (g : Stands p K h) (j : ℕ) (there : j < p.load.streams) (going : stop_in (slice_get p.streams j) ≡ None) where
  -- from the outbox of a worker
  module _ (w : ℕ) (whose : w % p.load.streams ≡ j) (stream : PlainStream) (seat : PlainSeat) (outbox : PlainOutbox) (longer : List ℕ) (spare : ℕ) (is : slice_get p.streams j ≡ Some stream)
      (seat_is : slice_get p.seats w ≡ Some seat) (moves : Moves (slice_index p.gathered j) seat.outbox outbox stream.body longer) where
    abbrev past : ℕ
    past = slice_index p.gathered j + length (bytes_of moves.taken)

    abbrev part : PlainStream
    part = record stream { body = longer; room = spare }

    abbrev box : PlainSeat
    box = record seat { outbox = outbox }

    abbrev pub boxed : Plain
    boxed = record p { streams = slice_set p.streams j part; seats = slice_set p.seats w box; gathered = slice_set p.gathered j past }

    inside : j < length p.streams
    inside = slice_get_within p.streams j stream is

    pub split : Split (IsPieceOf p.load (anchors_at p)) moves.taken outbox.pieces (h.posted w)
    split = paired_split (IsPieceOf p.load (anchors_at p)) moves.taken outbox.pieces (h.posted w)
        (subst (λ (x : List Piece). Paired (IsPieceOf p.load (anchors_at p)) x (h.posted w)) moves.front (g.posted w seat seat_is))

    abbrev pub posted_hidden : Hidden
    posted_hidden = record h { posted = at w split.back h.posted; moved = at j (h.moved j ++ split.front) h.moved }

    rises : (i : Item) → Member i split.front → start_of i < past_of i
    rises i m =
        let o = g.inv.agrees.pieces.stream j there in
        let among : Member i (h.posted w) = subst (λ (x : List Item). Member i x) (sym split.is) (member_front i split.front split.back m) in
        (chain_member (slice_index p.gathered j) (slice_index p.ends j) o.waiting i o.rest (o.posted i (inl (w, whose, among)))).1

    pub posted_chain : Chain (slice_index p.gathered j) split.front past
    posted_chain = chain_of p.load (anchors_at p) (slice_index p.gathered j) moves.taken split.front moves.continues split.fronts rises

    posted_gathers : Gathered (setting_of p.load) j (core_of p h) (posted_moved (setting_of p.load) j there w whose (core_of p h) split.back (h.moved j ++ split.front) past)
    posted_gathers = posted_is_moved (setting_of p.load) j there w whose split.front split.back (core_of p h) past (let e = g.sound.gathered in omega arith) going split.is posted_chain

    anchors_same : anchors_at boxed ≡ anchors_at p
    anchors_same = fun_ext (λ k. reads_same anchors_in p.streams j part inside (sym (ap anchors_in is)) k)

    streams_same : (λ (k : ℕ). record { posted = h.own k; moved = posted_hidden.moved k; anchors = anchors_in (slice_get (slice_set p.streams j part) k); stop = stop_in (slice_get (slice_set p.streams j part) k) })
        ≡ at j (record ((core_of p h).streams j) { moved = h.moved j ++ split.front }) (core_of p h).streams
    streams_same =
        let f : ℕ → Option PlainStream → Stream = λ k o. record { posted = h.own k; moved = h.moved k; anchors = anchors_in o; stop = stop_in o } in
        let f' : ℕ → Option PlainStream → Stream = λ k o. record { posted = h.own k; moved = posted_hidden.moved k; anchors = anchors_in o; stop = stop_in o } in
        reads_changed f f' p.streams j part inside (λ k ne o i. record { posted = h.own k; moved = at_other j (h.moved j ++ split.front) h.moved k ne i; anchors = anchors_in o; stop = stop_in o })
        ∙ ap (λ (x : Stream). at j x (λ k. f k (slice_get p.streams k)))
        (λ i. record { posted = h.own j; moved = at_same j (h.moved j ++ split.front) h.moved i; anchors = anchors_in (sym is i); stop = stop_in (sym is i) })

    outboxes_same : (λ (k : ℕ). record { posted = posted_hidden.posted k; pending = pending_in (slice_get (slice_set p.seats w box) k) })
        ≡ at w (record ((core_of p h).outboxes w) { posted = split.back }) (core_of p h).outboxes
    outboxes_same =
        let f : ℕ → Option PlainSeat → Outbox = λ k o. record { posted = h.posted k; pending = pending_in o } in
        let f' : ℕ → Option PlainSeat → Outbox = λ k o. record { posted = posted_hidden.posted k; pending = pending_in o } in
        reads_changed f f' p.seats w box (seat_inside p h w seat box seat_is) (λ k ne o i. record { posted = at_other w split.back h.posted k ne i; pending = pending_in o })
        ∙ ap (λ (x : Outbox). at w x (λ k. f k (slice_get p.seats k)))
        (λ i. record { posted = at_same w split.back h.posted i; pending = pending_in (sym seat_is i) })

    workers_same : (λ (k : ℕ). worker_in p.load (slice_get (slice_set p.seats w box) k) (committed_by p.load.workers k p.committed)) ≡ (core_of p h).workers
    workers_same = ap (λ (c : Core). c.workers) (seat_core p h w seat box seat_is) ∙ same_worker p h w seat box seat_is refl

    posted_core : core_of boxed posted_hidden ≡ posted_moved (setting_of p.load) j there w whose (core_of p h) split.back (h.moved j ++ split.front) past
    posted_core = λ i. record {
      shards = (core_of p h).shards;
      workers = workers_same i;
      outboxes = outboxes_same i;
      streams = streams_same i;
      acked = h.acked;
      ends = p.ends;
      gathered = slice_set p.gathered j past;
      plv = p.plv;
    }

    pub posted_leads : Leads (setting_of p.load) (Gather j) (core_of p h) (core_of boxed posted_hidden) []
    posted_leads = (subst (λ (c : Core). Gathered (setting_of p.load) j (core_of p h) c) (sym posted_core) posted_gathers, refl)

    pub posted_stands : Stands boxed K posted_hidden
    posted_stands =
        let o : SoundSeat p.load w seat = g.sound.seat w seat seat_is in
        let r : Sound (record p { seats = slice_set p.seats w box }) = seat_sound p h w seat box seat_is g.sound (record {
          txn = o.txn;
          store = record {
            ends = o.store.ends;
            leaves = o.store.leaves;
            posts = λ t e. (let a = o.store.posts t e in let b = moves.room in omega arith);
            low = o.store.low;
            high = o.store.high;
            again = o.store.again;
            left = o.store.left;
          };
        }) (omega arith) in
        record {
          sound = record {
            workers_low = r.workers_low;
            workers_high = r.workers_high;
            streams_low = r.streams_low;
            streams_high = r.streams_high;
            few = r.few;
            takes = r.takes;
            opened = r.opened;
            shards = r.shards;
            seats = r.seats;
            streams = length-set p.streams j part ∙ g.sound.streams;
            ends = r.ends;
            gathered = length-set p.gathered j past ∙ g.sound.gathered;
            plv = r.plv;
            seat = r.seat;
            wide = each_got (λ k (t : PlainStream). SoundStream p.load t) p.streams j part inside ((g.sound.wide j stream is).0, moved_within (slice_index p.gathered j) seat.outbox outbox stream.body longer moves (g.sound.wide j stream is).1) g.sound.wide;
            narrow = r.narrow;
            room = r.room;
          };
          inv = kept (setting_of p.load) K (Gather j) (core_of p h) (core_of boxed posted_hidden) g.inv posted_leads;
          order = g.order;
          posted = each_else (λ k (t : PlainSeat). Paired (IsPieceOf p.load (anchors_at boxed)) t.outbox.pieces (posted_hidden.posted k)) p.seats w box (seat_inside p h w seat box seat_is)
              (subst (λ (a : ℕ → List (List ℕ)). Paired (IsPieceOf p.load a) outbox.pieces (posted_hidden.posted w)) (sym anchors_same)
              (subst (λ (x : List Item). Paired (IsPieceOf p.load (anchors_at p)) outbox.pieces x) (sym (at_same w split.back h.posted)) split.backs))
              (λ k ne t e. subst (λ (a : ℕ → List (List ℕ)). Paired (IsPieceOf p.load a) t.outbox.pieces (posted_hidden.posted k)) (sym anchors_same)
              (subst (λ (x : List Item). Paired (IsPieceOf p.load (anchors_at p)) t.outbox.pieces x) (sym (at_other w split.back h.posted k ne)) (g.posted k t e)));
          own = each_got (λ k (t : PlainStream). Paired (IsPieceOf p.load (anchors_at boxed)) t.own.pieces (h.own k)) p.streams j part inside
              (subst (λ (a : ℕ → List (List ℕ)). Paired (IsPieceOf p.load a) stream.own.pieces (h.own j)) (sym anchors_same) (g.own j stream is))
              (λ k t e. subst (λ (a : ℕ → List (List ℕ)). Paired (IsPieceOf p.load a) t.own.pieces (h.own k)) (sym anchors_same) (g.own k t e));
          placed = λ k x a e f. (each_got (λ l (y : PlainSeat). (b : Act Txn) → placed_in (hand_in p.load.procs y.txn) ≡ Some b → IsPieceOf p.load (anchors_at boxed) (record { start = y.start; bytes = bytes_in y.txn }) (Record b))
              p.seats w box (seat_inside p h w seat box seat_is)
              (λ b d. subst (λ (l : ℕ → List (List ℕ)). IsPieceOf p.load l (record { start = seat.start; bytes = bytes_in seat.txn }) (Record b)) (sym anchors_same) (g.placed w seat b seat_is d))
              (λ l y d b c. subst (λ (l : ℕ → List (List ℕ)). IsPieceOf p.load l (record { start = y.start; bytes = bytes_in y.txn }) (Record b)) (sym anchors_same) (g.placed l y b d c))) k x e a f;
          gathered = each_else (λ k (t : PlainStream). Spelled p.load (anchors_at boxed) (posted_hidden.moved k) (h.taken k ++ t.body)) p.streams j part inside
              (subst (λ (a : ℕ → List (List ℕ)). Spelled p.load a (posted_hidden.moved j) (h.taken j ++ longer)) (sym anchors_same)
              (subst (λ (x : List Item). Spelled p.load (anchors_at p) x (h.taken j ++ longer)) (sym (at_same j (h.moved j ++ split.front) h.moved))
              (subst (λ (b : List ℕ). Spelled p.load (anchors_at p) (h.moved j ++ split.front) b)
              (append_assoc (h.taken j) stream.body (bytes_of moves.taken) ∙ ap (λ (b : List ℕ). h.taken j ++ b) (sym moves.bytes))
              (spelled_append p.load (anchors_at p) (h.moved j) split.front (h.taken j ++ stream.body) (bytes_of moves.taken) (g.gathered j stream is) (spelled_pieces p.load (anchors_at p) moves.taken split.front split.fronts)))))
              (λ k ne t e. subst (λ (a : ℕ → List (List ℕ)). Spelled p.load a (posted_hidden.moved k) (h.taken k ++ t.body)) (sym anchors_same)
              (subst (λ (x : List Item). Spelled p.load (anchors_at p) x (h.taken k ++ t.body)) (sym (at_other j (h.moved j ++ split.front) h.moved k ne)) (g.gathered k t e)));
        }

    -- where the end stays nothing was gathered
    pub posted_still : slice_index p.gathered j + length (bytes_of moves.taken) ≡ slice_index p.gathered j → core_of boxed posted_hidden ≡ core_of p h
    posted_still e =
        let none : split.front ≡ [] = chain_still (slice_index p.gathered j) split.front (subst (λ (n : ℕ). Chain (slice_index p.gathered j) split.front n) e posted_chain) in
        posted_core ∙ ap (λ (l : List Item). posted_moved (setting_of p.load) j there w whose (core_of p h) split.back (h.moved j ++ l) past) none
        ∙ posted_none (setting_of p.load) j there w whose split.back (core_of p h) past (split.is ∙ ap (λ (l : List Item). l ++ split.back) none) (sym e)

    pub posted_going : stop_in (slice_get boxed.streams j) ≡ None
    posted_going = ap stop_in (got_same p.streams j part inside) ∙ sym (ap stop_in is) ∙ going

    pub posted_bound : slice_index p.gathered j + length (bytes_of moves.taken) ≤ slice_index p.ends j
    posted_bound =
        let up = posted_stands.inv.agrees.good.gathered j in
        let e = get_or-set_same p.gathered j past 0 (let o = g.sound.gathered in omega arith) in
        omega arith
