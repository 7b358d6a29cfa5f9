-- What was gathered is given away, and the state stays.
use Rattle.std.proofs.Common.{ℕ, ◌<◌, ◌≤◌, ◌≡◌, inl, inr, List, [], ◌++◌, length, refl, sym, ap, subst, ◌∙◌, Option, length-set, arith}
use Rattle.std.specs.Prelude.{Some, slice_get, slice_set}
use Rattle.std.proofs.lemmas.List.{append-nil}
use Rattle.std.proofs.lemmas.Option.{slice_get_within}
use Rattle.std.proofs.lemmas.Bool.{cases_eq}
use Rattle.std.proofs.Math.Path.{fun_ext}
use Rattle.tau_base.specs.declared.limits.TheConstants.{MAX_BODY}
use Rattle.tau_model.specs.History.{Act}
use Rattle.tau_machine.specs.Hands.{Txn}
use Rattle.tau_shard.specs.Shard.{at}
use Rattle.tau_machine.specs.Invariant.{Invariant}
use Rattle.tau_machine.specs.State.{Core, Stream, Record}
use Rattle.tau_shard.proofs.At.{at_same, at_other}
use Rattle.tau_txn.specs.Txn.{bytes_in}
use Rattle.tau_core.specs.Plain.{PlainStream}
use Rattle.tau_core.specs.State.{Plain}
use Rattle.tau_core.specs.View.{setting_of, Hidden, anchors_in, stop_in, core_of}
use Rattle.tau_core.specs.Stands.{Stands, anchors_at, SoundStream}
use Rattle.tau_core.specs.Pieces.{IsPieceOf, Paired, Spelled}
use Rattle.tau_core.specs.Body.{Gives}
use Rattle.tau_core.specs.Steps.{HandsOut}
use Rattle.tau_core.proofs.Lists.{reads_same, each_got, each_else, got_same, got_other}

module _ (p : Plain) (K : List (Act Txn)) (h : Hidden) (g : Stands p K h) (j : ℕ) (stream : PlainStream) (spare : ℕ) (is : slice_get p.streams j ≡ Some stream) where
  abbrev part : PlainStream
  part = record stream { body = []; room = spare }

  abbrev pub given : Plain
  given = record p { streams = slice_set p.streams j part }

  abbrev pub given_hidden : Hidden
  given_hidden = record h { taken = at j (h.taken j ++ stream.body) h.taken }

  inside : j < length p.streams
  inside = slice_get_within p.streams j stream is

  anchors_same : anchors_at given ≡ anchors_at p
  anchors_same = fun_ext (λ k. reads_same anchors_in p.streams j part inside (sym (ap anchors_in is)) k)

  pub given_core : core_of given given_hidden ≡ core_of p h
  given_core =
      let f : ℕ → Option PlainStream → Stream = λ k o. record { posted = h.own k; moved = h.moved k; anchors = anchors_in o; stop = stop_in o } in
      ap (λ (l : ℕ → Stream). record (core_of p h) { streams = l })
      (fun_ext (λ k. elim (cases_eq k j) [
        | inl same ↦ subst (λ (n : ℕ). f n (slice_get (slice_set p.streams j part) n) ≡ f n (slice_get p.streams n)) (sym same) (ap (f j) (got_same p.streams j part inside) ∙ ap (f j) (sym is))
        | inr ne ↦ ap (f k) (got_other p.streams j k part ne)
      ]))

  pub given_stands : Stands given K given_hidden
  given_stands = record {
    sound = record {
      workers_low = g.sound.workers_low;
      workers_high = g.sound.workers_high;
      streams_low = g.sound.streams_low;
      streams_high = g.sound.streams_high;
      few = g.sound.few;
      takes = g.sound.takes;
      opened = g.sound.opened;
      shards = g.sound.shards;
      seats = g.sound.seats;
      streams = length-set p.streams j part ∙ g.sound.streams;
      ends = g.sound.ends;
      gathered = g.sound.gathered;
      plv = g.sound.plv;
      seat = g.sound.seat;
      wide = each_got (λ k (t : PlainStream). SoundStream p.load t) p.streams j part inside ((g.sound.wide j stream is).0, (omega arith)) g.sound.wide;
      narrow = g.sound.narrow;
      room = g.sound.room;
    };
    inv = subst (λ (c : Core). Invariant (setting_of p.load) K c) (sym given_core) g.inv;
    order = g.order;
    posted = λ w t e. subst (λ (a : ℕ → List (List ℕ)). Paired (IsPieceOf p.load a) t.outbox.pieces (h.posted w)) (sym anchors_same) (g.posted w t e);
    own = each_got (λ k (t : PlainStream). Paired (IsPieceOf p.load (anchors_at given)) t.own.pieces (h.own k)) p.streams j part inside
        (subst (λ (a : ℕ → List (List ℕ)). Paired (IsPieceOf p.load a) stream.own.pieces (h.own j)) (sym anchors_same) (g.own j stream is))
        (λ k t e. subst (λ (a : ℕ → List (List ℕ)). Paired (IsPieceOf p.load a) t.own.pieces (h.own k)) (sym anchors_same) (g.own k t e));
    placed = λ w t a e f. subst (λ (l : ℕ → List (List ℕ)). IsPieceOf p.load l (record { start = t.start; bytes = bytes_in t.txn }) (Record a)) (sym anchors_same) (g.placed w t a e f);
    gathered = each_else (λ k (t : PlainStream). Spelled p.load (anchors_at given) (h.moved k) (given_hidden.taken k ++ t.body)) p.streams j part inside
        (subst (λ (a : ℕ → List (List ℕ)). Spelled p.load a (h.moved j) (given_hidden.taken j ++ [])) (sym anchors_same)
        (subst (λ (b : List ℕ). Spelled p.load (anchors_at p) (h.moved j) b) (sym (append-nil (given_hidden.taken j) ∙ at_same j (h.taken j ++ stream.body) h.taken)) (g.gathered j stream is)))
        (λ k ne t e. subst (λ (a : ℕ → List (List ℕ)). Spelled p.load a (h.moved k) (given_hidden.taken k ++ t.body)) (sym anchors_same)
        (subst (λ (b : List ℕ). Spelled p.load (anchors_at p) (h.moved k) (b ++ t.body)) (sym (at_other j (h.taken j ++ stream.body) h.taken k ne)) (g.gathered k t e)));
  }

pub hands_out : (p p' : Plain) (K : List (Act Txn)) (h : Hidden) (g : Stands p K h) (j : ℕ) (bytes : List ℕ) → Gives p j bytes p' → HandsOut p p' K h j bytes
hands_out p p' K h g j bytes q =
    let hidden : Hidden = given_hidden p K h g j q.stream q.room q.is in
    let here : Stands (given p K h g j q.stream q.room q.is) K hidden = given_stands p K h g j q.stream q.room q.is in
    let got : slice_get (slice_set p.streams j (record q.stream { body = []; room = q.room })) j ≡ Some (record q.stream { body = []; room = q.room }) = got_same p.streams j (record q.stream { body = []; room = q.room }) (slice_get_within p.streams j q.stream q.is) in
    subst (λ (x : Plain). HandsOut p x K h j bytes) (sym q.after) (record {
      hidden = hidden;
      same = given_core p K h g j q.stream q.room q.is;
      stands = here;
      load = refl;
      taken = ap (λ (b : List ℕ). at j (h.taken j ++ b) h.taken) (sym q.bytes_is);
      small = subst (λ (b : List ℕ). length b ≤ MAX_BODY) (sym q.bytes_is) (g.sound.wide j q.stream q.is).1;
      gives = record { stream = q.stream; room = q.room; is = q.is; bytes_is = q.bytes_is; after = refl };
      spelled = subst (λ (b : List ℕ). Spelled p.load (anchors_at (given p K h g j q.stream q.room q.is)) (h.moved j) b) (append-nil (hidden.taken j)) (here.gathered j (record q.stream { body = []; room = q.room }) got);
    })
