-- What was made of the slots, of the words, and of what the head has, is what a core is made of.
use Rattle.std.proofs.Common.{ℕ, ◌<◌, ◌≡◌, false, List, [], ◌++◌, length, refl, sym, ap, subst, ◌∙◌, Option, arith}
use Rattle.std.specs.Prelude.{Some, None, slice_get}
use Rattle.std.proofs.lemmas.List.{append-nil}
use Rattle.std.proofs.lemmas.Option.{slice_get_within}
use mathlib.Core.Option.{some, some-injective}
use lib.ListN.{get_elem?}
use Rattle.tau_model.specs.History.{Member}
use Rattle.tau_machine.specs.Worker.{Worker}
use Rattle.tau_outbox.specs.Pieces.{bytes_of, PlainOutbox}
use Rattle.tau_txn.specs.Txn.{PlainTxn, hand_in, has_joined, held_in}
use Rattle.tau_core.specs.declared.state.Load.{Load}
use Rattle.tau_core.specs.Plain.{PlainSeat, PlainStream}
use Rattle.tau_core.specs.State.{Plain}
use Rattle.tau_core.specs.View.{again_in, all_numbered, from_on, seat_worker}
use Rattle.tau_core.specs.Stands.{AreNumbers, SoundStream}
use Rattle.tau_core.specs.Parts.{AreShown, AtRest, IsOfParts, RestsSeat}
use Rattle.tau_occ.specs.declared.style.Style.{Style}
use Rattle.tau_rule.specs.Role.{Role, Share, managed_in_share}
use Rattle.tau_rule.specs.Rule.{IsPart, IsShare, has, manager_role, outbox_part, part_count}
use Rattle.tau_rule.specs.declared.part.Part.{Part}
use Rattle.tau_desk.specs.declared.mark.Mark.{Mark}
use Rattle.tau_desk.proofs.PutTogether.{IsSeatOf, IsStreamOf, PutTogether}
use Rattle.tau_desk.specs.Ends.{AreResting, IsClosing, IsWhole}
use Rattle.tau_desk.specs.Seats.{PlainHead}
use Rattle.tau_desk.specs.Shares.{FitsWork, PlainWork, ShowsWorker, own_worker, unbegun}
use Rattle.tau_desk.specs.Taken.{IsMadeOf, IsSeatFrom, calls_at, settled}
use Rattle.tau_desk.proofs.CloseCalls.{in_turn_same}
use Rattle.tau_desk.proofs.CloseHead.{HeadAt, has_all}
use Rattle.tau_desk.proofs.CloseTaken.{calls_are, at_end, at_plv, worker_is}
use Rattle.tau_desk.proofs.Closing.{ClosesAt, asked, closed, word_ends, word_plv}

-- a worker rests whose call in hand holds no key and has not committed; where that has made no event it is gone
rests_so : (l : Load) (w : ℕ) (o : PlainWork) (m : Option Mark) → o.mark ≡ m → FitsWork l w o → held_in o.txn ≡ [] → has_joined o.txn ≡ false → (x : PlainSeat) → IsSeatFrom (settled o m) x → RestsSeat l w x
rests_so l w o None at f held joined x s = record {
  worker = ap (λ (t : PlainTxn). t.worker) s.txn ∙ f.worker;
  width = ap (λ (t : PlainTxn). t.width) s.txn ∙ f.width;
  mode = ap (λ (t : PlainTxn). t.mode) s.txn ∙ f.mode;
  joined = ap has_joined s.txn ∙ joined;
  held = ap held_in s.txn ∙ held;
  low = (let e = s.next in let a = f.low in omega (arith, e, a));
  high = (let e = s.next in let a = f.high in omega (arith, e, a));
  again = λ n e. f.again n (sym s.again ∙ e);
  left = subst (AreNumbers l) (sym s.left) f.left;
}
rests_so l w o (Some k) at f held joined x s = (let m = f.mark k at in record {
  worker = ap (λ (t : PlainTxn). t.worker) s.txn ∙ f.worker;
  width = ap (λ (t : PlainTxn). t.width) s.txn ∙ f.width;
  mode = ap (λ (t : PlainTxn). t.mode) s.txn ∙ f.mode;
  joined = ap has_joined s.txn;
  held = ap held_in s.txn;
  low = (let e = s.next in let a = m.low in omega (arith, e, a));
  high = (let e = s.next in let a = m.high in omega (arith, e, a));
  again = λ n e. m.again n (sym s.again ∙ e);
  left = subst (AreNumbers l) (sym s.left) f.left;
})

own_seat : (l : Load) (wk : Worker) (o : PlainWork) → wk ≡ own_worker l o → (x : PlainSeat) → IsSeatFrom o x → wk ≡ seat_worker l x wk.committed
own_seat l wk o h x s = h ∙ (λ i. record {
  waiting = again_in l.calls (sym s.again i) ++ from_on l.calls l.workers (sym s.next i);
  hand = hand_in l.procs (sym s.txn i);
  left = all_numbered l.calls (sym s.left i);
  committed = sym (ap (λ (k : Worker). k.committed) h) i;
})

shows_seat : (l : Load) (wk : Worker) (o : PlainWork) (m : Option Mark) → ShowsWorker l wk o m → (x : PlainSeat) → IsSeatFrom (settled o m) x → wk ≡ seat_worker l x wk.committed
shows_seat l wk o None h x s = own_seat l wk o h x s
shows_seat l wk o (Some k) h x s = own_seat l wk (unbegun o k) h.0 x s

abbrev taken_in : Option Role → List ℕ
taken_in None = []
taken_in (Some r) = bytes_of (managed_in_share r.share).taken

module _ (origin : Plain) {style : Style} (h : PlainHead) (g : HeadAt origin h) (whole : IsWhole h) (rests : AreResting h) (parts : ℕ) (count : parts ≡ part_count origin.load) (words : List ℕ) (slots : List (Option Part)) (k : ClosesAt origin style h.me.0 words slots) (q : Plain)
    (made : IsMadeOf origin.load parts slots words h.workers h.managers q) where
  abbrev taken : ℕ → List ℕ
  taken j = taken_in (has (manager_role origin.load j) h.me.0)

  -- the part in a slot
  part_at : (i : ℕ) (p : Part) → i < part_count origin.load → get_elem? slots i ≡ some (Some p) → IsPart origin.load i p k.0
  part_at i p low e =
      let t = k.3 i low in
      let is : Some t.0 ≡ Some p = some-injective (Some t.0) (Some p) (sym t.2 ∙ e) in
      let same : t.0 ≡ p = cc in
      subst (λ (z : Part). IsPart origin.load i z k.0) same t.1

  seat_of : (w : ℕ) (x : PlainSeat) → slice_get q.seats w ≡ Some x → IsSeatOf origin.load w k.0 x
  seat_of w x e =
      let r = made.seats w x e in
      let f = g.worker w r.work r.there in
      let low = f.work.there in
      record {
        box = r.box;
        part = part_at (outbox_part w) r.box (omega (arith, low)) r.home;
        of_box = r.of_box;
        worker = f.work.worker;
        share = (low, worker_is origin h g whole rests parts count words slots k w r.work r.there);
        own = shows_seat origin.load f.work.worker r.work r.work.mark f.work.shows x r.seat;
      }

  seat_rests : (w : ℕ) (x : PlainSeat) → slice_get q.seats w ≡ Some x → RestsSeat origin.load w x
  seat_rests w x e =
      let r = made.seats w x e in
      let t = rests w r.work r.there in
      rests_so origin.load w r.work r.work.mark refl (g.worker w r.work r.there).work.fits t.0 t.1 x r.seat

  stream_of : (j : ℕ) (x : PlainStream) → slice_get q.streams j ≡ Some x → IsStreamOf origin.load j k.0 q.gathered (taken j) x
  stream_of j x e =
      let r = made.streams j x e in
      let f = g.manager j r.stock r.there in
      let u : ℕ = manager_role origin.load j in
      let bytes : taken j ≡ bytes_of f.stock.managed.taken = ap taken_in f.is ∙ ap (λ (s : Share). bytes_of (managed_in_share s).taken) f.stock.share in
      record {
        managed = f.stock.managed;
        share = subst (λ (s : Share). IsShare origin.load u s k.0) f.stock.share (k.4 u f.role f.is).0;
        anchors = r.stream.anchors ∙ sym f.stock.anchors;
        own = ap (λ (o : PlainOutbox). o.pieces) r.stream.own ∙ sym f.stock.own;
        going = r.stream.going;
        bytes = ap (λ (b : List ℕ). taken j ++ b) r.stream.body ∙ append-nil (taken j) ∙ bytes;
        upto = r.upto ∙ sym f.stock.gathered;
      }

  stream_rests : (j : ℕ) (x : PlainStream) → slice_get q.streams j ≡ Some x → SoundStream origin.load x
  stream_rests j x e =
      let r = made.streams j x e in
      let wide = (g.manager j r.stock r.there).stock.wide in
      (λ a m. wide a (subst (λ (l : List (List ℕ)). Member a l) r.stream.anchors m), (let none = ap (λ (b : List ℕ). length b) r.stream.body in omega (arith, none)))

  abbrev known : Plain
  known = record q { load = origin.load }

  known_rests : AtRest known
  known_rests = (let s = k.1.opened.stands.sound in record {
    workers_low = s.workers_low;
    workers_high = s.workers_high;
    streams_low = s.streams_low;
    streams_high = s.streams_high;
    few = s.few;
    takes = s.takes;
    opened = s.opened;
    shards = made.shard_count;
    seats = made.seat_count;
    streams = made.stream_count;
    ends = made.ends_count;
    gathered = made.gathered_count;
    plv = made.plv_count;
    seat = seat_rests;
    wide = stream_rests;
  })

  known_put : PutTogether known k.0 taken
  known_put = record {
    rests = known_rests;
    shards = λ i x e. (let t = made.shards i x e in let w = slice_get_within q.shards i x e in let n = made.shard_count in (t.0, part_at i t.0 (omega (arith, w, n)) t.1, t.2));
    seats = seat_of;
    streams = stream_of;
    committed = made.committed ∙ in_turn_same origin.load.workers (calls_at h.workers) (λ w. (k.0.core.workers w).committed) (calls_are origin h g whole rests parts count words slots k);
    ends = λ j low. made.ends j low ∙ at_end origin h g whole rests parts count words slots k j low ∙ sym (word_ends origin.load k.0 j low);
    plv = λ j low. made.plv j low ∙ at_plv origin h g whole rests parts count words slots k j low ∙ sym (word_plv origin.load k.0 j low);
  }

  put : PutTogether q k.0 taken
  put = subst (λ (z : Plain). PutTogether z k.0 taken) (λ i. record q { load = sym made.load i }) known_put

  pub can_rest : AtRest q
  can_rest = put.rests

  pub are_shown : AreShown q
  are_shown = asked origin k.0 k.1 q taken made.load put

  pub is_closing : (result : Plain) → IsOfParts q result → IsClosing origin style h.me.0 result
  is_closing result is = closed origin k.0 k.1 q taken made.load put h.me.0 k.2 k.4 (has_all origin h g whole) result is
