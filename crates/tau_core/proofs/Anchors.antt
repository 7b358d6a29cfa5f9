-- An anchor is placed.
use Rattle.std.proofs.Common.{ℕ, ◌+◌, ◌<◌, ◌≤◌, ◌-◌, ◌^◌, ◌≡◌, inl, inr, List, [], ◌∷◌, ◌++◌, length, refl, sym, ap, subst, ◌∙◌, Option, arith, length-set}
use Rattle.std.specs.Prelude.{Some, None, false, slice_get, slice_index, slice_set}
use Rattle.std.proofs.lemmas.Option.{slice_get_within}
use Rattle.std.proofs.lemmas.Bool.{cases_eq}
use Rattle.std.proofs.Math.Path.{fun_ext}
use Rattle.tau_base.proofs.Vectors.{at_most_itself}
use Rattle.tau_model.specs.History.{Act}
use Rattle.tau_machine.specs.Hands.{Txn}
use Rattle.tau_shard.specs.Shard.{at}
use Rattle.tau_machine.specs.State.{Core, Stream, Item, Record, Anchor}
use Rattle.tau_machine.specs.Events.{with_stream, Leads, PlaceAnchor}
use Rattle.tau_machine.specs.Invariant.{Invariant}
use Rattle.tau_outbox.specs.declared.Piece.{Piece}
use Rattle.tau_shard.proofs.At.{at_same, at_other}
use Rattle.tau_machine.proofs.Pieces.{chain_member}
use Rattle.tau_base.specs.Modes.{format_of}
use Rattle.tau_record.specs.Record.{Spells}
use Rattle.tau_record.specs.declared.entry.Entry.TheVariants as entry
use Rattle.tau_outbox.specs.Pieces.{PlainOutbox, end_of}
use Rattle.tau_txn.specs.Txn.{bytes_in}
use Rattle.tau_core.specs.Plain.{PlainStream}
use Rattle.tau_core.specs.State.{Plain}
use Rattle.tau_core.specs.View.{setting_of, Hidden, anchors_in, stop_in, core_of}
use Rattle.tau_core.specs.Stands.{Stands, anchors_at, SoundStream}
use Rattle.tau_core.specs.Pieces.{IsPieceOf, Paired, Spelled}
use Rattle.tau_core.proofs.Lists.{reads_changed, reads_same, each_got, each_else, got_same, got_other, member_snoc}
use Rattle.tau_core.proofs.AnchorNames.{Grows, piece_more, paired_more, spelled_more, end_low}
use Rattle.tau_core.proofs.Spellings.{paired_append}
use Rattle.tau_core.proofs.PersistLeads.{kept}
use Rattle.tau_base.proofs.Lists.{got_front}

module _ (p : Plain) (K : List (Act Txn)) (h : Hidden) (g : Stands p K h) (j : ℕ) (there : j < p.load.streams) where
  -- what the manager has posted ends within the stream
  pub own_end : (s : PlainStream) → slice_get p.streams j ≡ Some s → end_of 0 s.own.pieces ≤ slice_index p.ends j
  own_end s is =
      let o = g.inv.agrees.pieces.stream j there in
      end_low p.load (anchors_at p) 0 (slice_index p.ends j) s.own.pieces (h.own j) (g.own j s is) (omega arith)
      (λ i m. (chain_member (slice_index p.gathered j) (slice_index p.ends j) o.waiting i o.rest (o.posted i (inr m))).2)

  module _ (going : stop_in (slice_get p.streams j) ≡ None) (stream : PlainStream) (own : PlainOutbox) (bytes : List ℕ) (is : slice_get p.streams j ≡ Some stream)
      (pieces : own.pieces ≡ stream.own.pieces ++ record { start = slice_index p.ends j; bytes = bytes } ∷ [])
      (spelled : (vectors : List (List ℕ)) → Spells (format_of p.load.mode) (length p.plv) vectors false (entry.Anchor p.plv) bytes)
      (room : slice_index p.load.opening.anchors.items j + length stream.anchors < 2 ^ 32 - 1) where
    abbrev start : ℕ
    start = slice_index p.ends j

    abbrev past : ℕ
    past = start + length bytes

    abbrev part : PlainStream
    part = record stream { own = own; anchors = stream.anchors ++ p.plv ∷ [] }

    abbrev pub anchored : Plain
    anchored = record p { streams = slice_set p.streams j part; ends = slice_set p.ends j past }

    abbrev pub anchor_hidden : Hidden
    anchor_hidden = record h { own = at j (h.own j ++ Anchor start past p.plv ∷ []) h.own }

    inside : j < length p.streams
    inside = slice_get_within p.streams j stream is

    goes : start < past
    goes = (let e = ap (length {A = ℕ}) (spelled []).text in omega arith)

    after : core_of anchored anchor_hidden ≡ record (with_stream (core_of p h) j (record ((core_of p h).streams j) {
      anchors = ((core_of p h).streams j).anchors ++ p.plv ∷ [];
      posted = ((core_of p h).streams j).posted ++ Anchor start past p.plv ∷ [];
    })) { ends = slice_set p.ends j past }
    after =
        let f : ℕ → Option PlainStream → Stream = λ k o. record { posted = h.own k; moved = h.moved k; anchors = anchors_in o; stop = stop_in o } in
        let f' : ℕ → Option PlainStream → Stream = λ k o. record { posted = anchor_hidden.own k; moved = h.moved k; anchors = anchors_in o; stop = stop_in o } in
        ap (λ (x : ℕ → Stream). record (core_of p h) { streams = x; ends = slice_set p.ends j past })
        (reads_changed f f' p.streams j part inside (λ k ne o i. record { posted = at_other j (h.own j ++ Anchor start past p.plv ∷ []) h.own k ne i; moved = h.moved k; anchors = anchors_in o; stop = stop_in o })
        ∙ ap (λ (x : Stream). at j x (λ k. f k (slice_get p.streams k)))
        (λ i. record { posted = at_same j (h.own j ++ Anchor start past p.plv ∷ []) h.own i; moved = h.moved j; anchors = anchors_in (sym is i) ++ p.plv ∷ []; stop = stop_in (sym is i) }))

    pub anchor_leads : Leads (setting_of p.load) (PlaceAnchor j p.plv) (core_of p h) (core_of anchored anchor_hidden) []
    anchor_leads = (
      record {
        there = there;
        going = going;
        room = subst (λ (o : Option PlainStream). slice_index p.load.opening.anchors.items j + length (anchors_in o) < 2 ^ 32 - 1) (sym is) room;
        covered = at_most_itself p.plv;
        narrow = (let e = g.sound.plv in omega arith);
        past = past;
        past_start = goes;
        after = after;
      },
      refl,
    )

    grows : Grows (anchors_at p) (anchors_at anchored)
    grows = record {
      keeps = λ k i v e. elim (cases_eq k j) [
        | inl same ↦
            let old : slice_get stream.anchors i ≡ Some v = ap (λ (o : Option PlainStream). slice_get (anchors_in o) i) (sym is) ∙ ap (λ (n : ℕ). slice_get (anchors_at p n) i) (sym same) ∙ e in
            ap (λ (n : ℕ). slice_get (anchors_at anchored n) i) same ∙ ap (λ (o : Option PlainStream). slice_get (anchors_in o) i) (got_same p.streams j part inside) ∙ got_front stream.anchors (p.plv ∷ []) i v old
        | inr ne ↦ ap (λ (o : Option PlainStream). slice_get (anchors_in o) i) (got_other p.streams j k part ne) ∙ e
      ];
    }

    new_piece : IsPieceOf p.load (anchors_at anchored) (record { start = start; bytes = bytes }) (Anchor start past p.plv)
    new_piece = record {
      start = refl;
      past = refl;
      bytes = λ vectors. subst (λ (n : ℕ). Spells (format_of p.load.mode) n vectors false (entry.Anchor p.plv) bytes) g.sound.plv (spelled vectors);
    }

    pub anchor_stands : Stands anchored K anchor_hidden
    anchor_stands = record {
      sound = record {
        workers_low = g.sound.workers_low;
        workers_high = g.sound.workers_high;
        streams_low = g.sound.streams_low;
        streams_high = g.sound.streams_high;
        few = g.sound.few;
        takes = g.sound.takes;
        opened = g.sound.opened;
        shards = g.sound.shards;
        seats = g.sound.seats;
        streams = length-set p.streams j part ∙ g.sound.streams;
        ends = length-set p.ends j past ∙ g.sound.ends;
        gathered = g.sound.gathered;
        plv = g.sound.plv;
        seat = g.sound.seat;
        wide = each_got (λ k (t : PlainStream). SoundStream p.load t) p.streams j part inside ((λ a m. member_snoc (λ (v : List ℕ). length v ≡ p.load.streams) stream.anchors p.plv (g.sound.wide j stream is).0 g.sound.plv a m), (g.sound.wide j stream is).1) g.sound.wide;
        narrow = g.sound.narrow;
        room = g.sound.room;
      };
      inv = kept (setting_of p.load) K (PlaceAnchor j p.plv) (core_of p h) (core_of anchored anchor_hidden) g.inv anchor_leads;
      order = g.order;
      posted = λ w t e. paired_more p.load (anchors_at p) (anchors_at anchored) grows t.outbox.pieces (h.posted w) (g.posted w t e);
      own = each_else (λ k (t : PlainStream). Paired (IsPieceOf p.load (anchors_at anchored)) t.own.pieces (anchor_hidden.own k)) p.streams j part inside
          (subst (λ (x : List Item). Paired (IsPieceOf p.load (anchors_at anchored)) own.pieces x) (sym (at_same j (h.own j ++ Anchor start past p.plv ∷ []) h.own))
          (subst (λ (x : List Piece). Paired (IsPieceOf p.load (anchors_at anchored)) x (h.own j ++ Anchor start past p.plv ∷ [])) (sym pieces)
          (paired_append (IsPieceOf p.load (anchors_at anchored)) stream.own.pieces (record { start = start; bytes = bytes } ∷ []) (h.own j) (Anchor start past p.plv ∷ [])
          (paired_more p.load (anchors_at p) (anchors_at anchored) grows stream.own.pieces (h.own j) (g.own j stream is)) (new_piece, tt))))
          (λ k ne t e. subst (λ (x : List Item). Paired (IsPieceOf p.load (anchors_at anchored)) t.own.pieces x) (sym (at_other j (h.own j ++ Anchor start past p.plv ∷ []) h.own k ne))
          (paired_more p.load (anchors_at p) (anchors_at anchored) grows t.own.pieces (h.own k) (g.own k t e)));
      placed = λ w t a e f. piece_more p.load (anchors_at p) (anchors_at anchored) grows (record { start = t.start; bytes = bytes_in t.txn }) (Record a) (g.placed w t a e f);
      gathered = each_got (λ k (t : PlainStream). Spelled p.load (anchors_at anchored) (h.moved k) (h.taken k ++ t.body)) p.streams j part inside
          (spelled_more p.load (anchors_at p) (anchors_at anchored) grows (h.moved j) (h.taken j ++ stream.body) (g.gathered j stream is))
          (λ k t e. spelled_more p.load (anchors_at p) (anchors_at anchored) grows (h.moved k) (h.taken k ++ t.body) (g.gathered k t e));
    }

  -- room alone
  module _ (stream : PlainStream) (own : PlainOutbox) (spare : ℕ) (is : slice_get p.streams j ≡ Some stream) (pieces : own.pieces ≡ stream.own.pieces) where
    abbrev roomy : PlainStream
    roomy = record stream { own = own; room = spare }

    abbrev pub reserved : Plain
    reserved = record p { streams = slice_set p.streams j roomy }

    within : j < length p.streams
    within = slice_get_within p.streams j stream is

    anchors_same : anchors_at reserved ≡ anchors_at p
    anchors_same = fun_ext (λ k. reads_same anchors_in p.streams j roomy within (sym (ap anchors_in is)) k)

    pub reserved_core : core_of reserved h ≡ core_of p h
    reserved_core =
        let f : ℕ → Option PlainStream → Stream = λ k o. record { posted = h.own k; moved = h.moved k; anchors = anchors_in o; stop = stop_in o } in
        ap (λ (l : ℕ → Stream). record (core_of p h) { streams = l })
        (fun_ext (λ k. elim (cases_eq k j) [
          | inl same ↦ subst (λ (n : ℕ). f n (slice_get (slice_set p.streams j roomy) n) ≡ f n (slice_get p.streams n)) (sym same) (ap (f j) (got_same p.streams j roomy within) ∙ ap (f j) (sym is))
          | inr ne ↦ ap (f k) (got_other p.streams j k roomy ne)
        ]))

    pub reserved_going : stop_in (slice_get p.streams j) ≡ None → stop_in (slice_get reserved.streams j) ≡ None
    reserved_going going = ap stop_in (got_same p.streams j roomy within) ∙ sym (ap stop_in is) ∙ going

    pub reserved_stands : Stands reserved K h
    reserved_stands = record {
      sound = record {
        workers_low = g.sound.workers_low;
        workers_high = g.sound.workers_high;
        streams_low = g.sound.streams_low;
        streams_high = g.sound.streams_high;
        few = g.sound.few;
        takes = g.sound.takes;
        opened = g.sound.opened;
        shards = g.sound.shards;
        seats = g.sound.seats;
        streams = length-set p.streams j roomy ∙ g.sound.streams;
        ends = g.sound.ends;
        gathered = g.sound.gathered;
        plv = g.sound.plv;
        seat = g.sound.seat;
        wide = each_got (λ k (t : PlainStream). SoundStream p.load t) p.streams j roomy within (g.sound.wide j stream is) g.sound.wide;
        narrow = g.sound.narrow;
        room = g.sound.room;
      };
      inv = subst (λ (c : Core). Invariant (setting_of p.load) K c) (sym reserved_core) g.inv;
      order = g.order;
      posted = λ w t e. subst (λ (a : ℕ → List (List ℕ)). Paired (IsPieceOf p.load a) t.outbox.pieces (h.posted w)) (sym anchors_same) (g.posted w t e);
      own = each_got (λ k (t : PlainStream). Paired (IsPieceOf p.load (anchors_at reserved)) t.own.pieces (h.own k)) p.streams j roomy within
          (subst (λ (x : List Piece). Paired (IsPieceOf p.load (anchors_at reserved)) x (h.own j)) (sym pieces)
          (subst (λ (a : ℕ → List (List ℕ)). Paired (IsPieceOf p.load a) stream.own.pieces (h.own j)) (sym anchors_same) (g.own j stream is)))
          (λ k t e. subst (λ (a : ℕ → List (List ℕ)). Paired (IsPieceOf p.load a) t.own.pieces (h.own k)) (sym anchors_same) (g.own k t e));
      placed = λ w t a e f. subst (λ (l : ℕ → List (List ℕ)). IsPieceOf p.load l (record { start = t.start; bytes = bytes_in t.txn }) (Record a)) (sym anchors_same) (g.placed w t a e f);
      gathered = each_got (λ k (t : PlainStream). Spelled p.load (anchors_at reserved) (h.moved k) (h.taken k ++ t.body)) p.streams j roomy within
          (subst (λ (a : ℕ → List (List ℕ)). Spelled p.load a (h.moved j) (h.taken j ++ stream.body)) (sym anchors_same) (g.gathered j stream is))
          (λ k t e. subst (λ (a : ℕ → List (List ℕ)). Spelled p.load a (h.moved k) (h.taken k ++ t.body)) (sym anchors_same) (g.gathered k t e));
    }
