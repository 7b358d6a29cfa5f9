-- Gather, from the manager's own outbox.
use Rattle.std.proofs.Common.{ℕ, ◌+◌, ◌<◌, ◌≤◌, ◌≡◌, inr, List, [], ◌++◌, length, refl, sym, ap, subst, ◌∙◌, Option, append_assoc, arith, length-set, get_or-set_same}
use Rattle.std.specs.Prelude.{Some, None, slice_get, slice_index, slice_set}
use Rattle.std.proofs.lemmas.Option.{slice_get_within}
use Rattle.std.proofs.Math.Path.{fun_ext}
use Rattle.tau_model.specs.History.{Act, Member}
use Rattle.tau_machine.specs.Hands.{Txn}
use Rattle.tau_shard.specs.Shard.{at}
use Rattle.tau_machine.specs.State.{Core, Stream, Item, Record, start_of, past_of}
use Rattle.tau_machine.specs.Pieces.{Chain}
use Rattle.tau_machine.specs.Events.{Gathered, Leads, Gather}
use Rattle.tau_shard.proofs.At.{at_same, at_other}
use Rattle.tau_machine.proofs.Pieces.{chain_member}
use Rattle.tau_model.proofs.Orders.{member_front}
use Rattle.tau_outbox.specs.declared.Piece.{Piece}
use Rattle.tau_outbox.specs.Pieces.{PlainOutbox, bytes_of}
use Rattle.tau_txn.specs.Txn.{bytes_in}
use Rattle.tau_core.specs.Plain.{PlainStream}
use Rattle.tau_core.specs.State.{Plain}
use Rattle.tau_core.specs.View.{setting_of, Hidden, anchors_in, stop_in, core_of}
use Rattle.tau_core.specs.Stands.{Stands, anchors_at, SoundStream}
use Rattle.tau_core.specs.Pieces.{IsPieceOf, Paired, Spelled}
use Rattle.tau_core.specs.Gather.{Moves}
use Rattle.tau_core.proofs.Lists.{reads_changed, reads_same, each_got, each_else, got_same}
use Rattle.tau_core.proofs.PersistLeads.{kept}
use Rattle.tau_core.proofs.GatheredItems.{own_moved, own_is_moved, own_none}
use Rattle.tau_core.proofs.Spellings.{moved_within, Split, paired_split, chain_of, spelled_pieces, spelled_append, chain_still}

module _ (p : Plain) (K : List (Act Txn)) (h : Hidden) (g : Stands p K h) (j : ℕ) (there : j < p.load.streams) (going : stop_in (slice_get p.streams j) ≡ None) where
  -- from the manager's own outbox
  module _ (stream : PlainStream) (own : PlainOutbox) (longer : List ℕ) (spare : ℕ) (is : slice_get p.streams j ≡ Some stream)
      (moves : Moves (slice_index p.gathered j) stream.own own stream.body longer) where
    abbrev past : ℕ
    past = slice_index p.gathered j + length (bytes_of moves.taken)

    abbrev part : PlainStream
    part = record stream { own = own; body = longer; room = spare }

    abbrev pub owned : Plain
    owned = record p { streams = slice_set p.streams j part; gathered = slice_set p.gathered j past }

    inside : j < length p.streams
    inside = slice_get_within p.streams j stream is

    pub split : Split (IsPieceOf p.load (anchors_at p)) moves.taken own.pieces (h.own j)
    split = paired_split (IsPieceOf p.load (anchors_at p)) moves.taken own.pieces (h.own j)
        (subst (λ (x : List Piece). Paired (IsPieceOf p.load (anchors_at p)) x (h.own j)) moves.front (g.own j stream is))

    abbrev pub own_hidden : Hidden
    own_hidden = record h { own = at j split.back h.own; moved = at j (h.moved j ++ split.front) h.moved }

    rises : (i : Item) → Member i split.front → start_of i < past_of i
    rises i m =
        let o = g.inv.agrees.pieces.stream j there in
        let among : Member i (h.own j) = subst (λ (x : List Item). Member i x) (sym split.is) (member_front i split.front split.back m) in
        (chain_member (slice_index p.gathered j) (slice_index p.ends j) o.waiting i o.rest (o.posted i (inr among))).1

    pub own_chain : Chain (slice_index p.gathered j) split.front past
    own_chain = chain_of p.load (anchors_at p) (slice_index p.gathered j) moves.taken split.front moves.continues split.fronts rises

    own_gathers : Gathered (setting_of p.load) j (core_of p h) (own_moved (setting_of p.load) j there (core_of p h) split.back (h.moved j ++ split.front) past)
    own_gathers = own_is_moved (setting_of p.load) j there split.front split.back (core_of p h) past (let e = g.sound.gathered in omega arith) going split.is own_chain

    pub own_core : core_of owned own_hidden ≡ own_moved (setting_of p.load) j there (core_of p h) split.back (h.moved j ++ split.front) past
    own_core =
        let f : ℕ → Option PlainStream → Stream = λ k o. record { posted = h.own k; moved = h.moved k; anchors = anchors_in o; stop = stop_in o } in
        let f' : ℕ → Option PlainStream → Stream = λ k o. record { posted = own_hidden.own k; moved = own_hidden.moved k; anchors = anchors_in o; stop = stop_in o } in
        ap (λ (x : ℕ → Stream). record (core_of p h) { streams = x; gathered = slice_set p.gathered j past })
        (reads_changed f f' p.streams j part inside (λ k ne o i. record { posted = at_other j split.back h.own k ne i; moved = at_other j (h.moved j ++ split.front) h.moved k ne i; anchors = anchors_in o; stop = stop_in o })
        ∙ ap (λ (x : Stream). at j x (λ k. f k (slice_get p.streams k)))
        (λ i. record { posted = at_same j split.back h.own i; moved = at_same j (h.moved j ++ split.front) h.moved i; anchors = anchors_in (sym is i); stop = stop_in (sym is i) }))

    pub own_leads : Leads (setting_of p.load) (Gather j) (core_of p h) (core_of owned own_hidden) []
    own_leads = (subst (λ (c : Core). Gathered (setting_of p.load) j (core_of p h) c) (sym own_core) own_gathers, refl)

    anchors_same : anchors_at owned ≡ anchors_at p
    anchors_same = fun_ext (λ k. reads_same anchors_in p.streams j part inside (sym (ap anchors_in is)) k)

    pub own_stands : Stands owned K own_hidden
    own_stands = record {
      sound = record {
        workers_low = g.sound.workers_low;
        workers_high = g.sound.workers_high;
        streams_low = g.sound.streams_low;
        streams_high = g.sound.streams_high;
        few = g.sound.few;
        takes = g.sound.takes;
        opened = g.sound.opened;
        shards = g.sound.shards;
        seats = g.sound.seats;
        streams = length-set p.streams j part ∙ g.sound.streams;
        ends = g.sound.ends;
        gathered = length-set p.gathered j past ∙ g.sound.gathered;
        plv = g.sound.plv;
        seat = g.sound.seat;
        wide = each_got (λ k (t : PlainStream). SoundStream p.load t) p.streams j part inside ((g.sound.wide j stream is).0, moved_within (slice_index p.gathered j) stream.own own stream.body longer moves (g.sound.wide j stream is).1) g.sound.wide;
        narrow = g.sound.narrow;
        room = g.sound.room;
      };
      inv = kept (setting_of p.load) K (Gather j) (core_of p h) (core_of owned own_hidden) g.inv own_leads;
      order = g.order;
      posted = λ w t e. subst (λ (a : ℕ → List (List ℕ)). Paired (IsPieceOf p.load a) t.outbox.pieces (h.posted w)) (sym anchors_same) (g.posted w t e);
      own = each_else (λ k (t : PlainStream). Paired (IsPieceOf p.load (anchors_at owned)) t.own.pieces (own_hidden.own k)) p.streams j part inside
          (subst (λ (a : ℕ → List (List ℕ)). Paired (IsPieceOf p.load a) own.pieces (own_hidden.own j)) (sym anchors_same)
          (subst (λ (x : List Item). Paired (IsPieceOf p.load (anchors_at p)) own.pieces x) (sym (at_same j split.back h.own)) split.backs))
          (λ k ne t e. subst (λ (a : ℕ → List (List ℕ)). Paired (IsPieceOf p.load a) t.own.pieces (own_hidden.own k)) (sym anchors_same)
          (subst (λ (x : List Item). Paired (IsPieceOf p.load (anchors_at p)) t.own.pieces x) (sym (at_other j split.back h.own k ne)) (g.own k t e)));
      placed = λ w t a e f. subst (λ (l : ℕ → List (List ℕ)). IsPieceOf p.load l (record { start = t.start; bytes = bytes_in t.txn }) (Record a)) (sym anchors_same) (g.placed w t a e f);
      gathered = each_else (λ k (t : PlainStream). Spelled p.load (anchors_at owned) (own_hidden.moved k) (h.taken k ++ t.body)) p.streams j part inside
          (subst (λ (a : ℕ → List (List ℕ)). Spelled p.load a (own_hidden.moved j) (h.taken j ++ longer)) (sym anchors_same)
          (subst (λ (x : List Item). Spelled p.load (anchors_at p) x (h.taken j ++ longer)) (sym (at_same j (h.moved j ++ split.front) h.moved))
          (subst (λ (b : List ℕ). Spelled p.load (anchors_at p) (h.moved j ++ split.front) b)
          (append_assoc (h.taken j) stream.body (bytes_of moves.taken) ∙ ap (λ (b : List ℕ). h.taken j ++ b) (sym moves.bytes))
          (spelled_append p.load (anchors_at p) (h.moved j) split.front (h.taken j ++ stream.body) (bytes_of moves.taken) (g.gathered j stream is) (spelled_pieces p.load (anchors_at p) moves.taken split.front split.fronts)))))
          (λ k ne t e. subst (λ (a : ℕ → List (List ℕ)). Spelled p.load a (own_hidden.moved k) (h.taken k ++ t.body)) (sym anchors_same)
          (subst (λ (x : List Item). Spelled p.load (anchors_at p) x (h.taken k ++ t.body)) (sym (at_other j (h.moved j ++ split.front) h.moved k ne)) (g.gathered k t e)));
    }

    -- where the end stays nothing was gathered
    pub own_still : slice_index p.gathered j + length (bytes_of moves.taken) ≡ slice_index p.gathered j → core_of owned own_hidden ≡ core_of p h
    own_still e =
        let none : split.front ≡ [] = chain_still (slice_index p.gathered j) split.front (subst (λ (n : ℕ). Chain (slice_index p.gathered j) split.front n) e own_chain) in
        own_core ∙ ap (λ (l : List Item). own_moved (setting_of p.load) j there (core_of p h) split.back (h.moved j ++ l) past) none
        ∙ own_none (setting_of p.load) j there split.back (core_of p h) past (split.is ∙ ap (λ (l : List Item). l ++ split.back) none) (sym e)

    pub own_going : stop_in (slice_get owned.streams j) ≡ None
    own_going = ap stop_in (got_same p.streams j part inside) ∙ sym (ap stop_in is) ∙ going

    pub own_bound : slice_index p.gathered j + length (bytes_of moves.taken) ≤ slice_index p.ends j
    own_bound =
        let up = own_stands.inv.agrees.good.gathered j in
        let e = get_or-set_same p.gathered j past 0 (let o = g.sound.gathered in omega arith) in
        omega arith
