-- A record is posted.
use Rattle.std.proofs.Common.{ℕ, ◌<◌, ◌≡◌, ◌≤◌, List, [], ◌∷◌, ◌++◌, length, refl, sym, ap, subst, ◌∙◌, Option, arith}
use Rattle.std.specs.Prelude.{Some, None, slice_set}
use Rattle.tau_model.specs.History.{Act}
use Rattle.tau_model.specs.declared.committed.Committed.{Committed}
use Rattle.tau_machine.specs.Hands.{Txn, Freeing}
use Rattle.tau_shard.specs.Shard.{at}
use Rattle.tau_machine.specs.Worker.{Worker}
use Rattle.tau_machine.specs.Invariant.{Invariant}
use Rattle.tau_machine.specs.Pieces.{placed_in, placed_of}
use Rattle.tau_machine.specs.State.{Item, Outbox, Record}
use Rattle.tau_machine.specs.Events.{with_worker, with_outbox, Leads, Post}
use Rattle.tau_shard.proofs.At.{at_same, at_other}
use Rattle.tau_outbox.specs.declared.Piece.{Piece}
use Rattle.tau_txn.specs.Txn.{hand_in, bytes_in}
use Rattle.tau_core.specs.Plain.{PlainSeat}
use Rattle.tau_core.specs.State.{Plain}
use Rattle.tau_core.specs.View.{setting_of, Hidden, committed_by, seat_worker, pending_in, worker_in, core_of}
use Rattle.tau_core.specs.Stands.{Stands, anchors_at}
use Rattle.tau_core.specs.Pieces.{IsPieceOf, Paired}
use Rattle.tau_core.specs.Frees.{PostsRecord}
use Rattle.tau_core.proofs.Lists.{reads_got, reads_changed, each_else, each_got}
use Rattle.tau_core.proofs.Seats.{worker_of_seat, seat_inside, seat_sound, one_open}
use Rattle.tau_core.proofs.Spellings.{paired_append}
use Rattle.tau_core.proofs.Joins.{one_none}
use Rattle.tau_core.proofs.PersistLeads.{kept}

module _ (p p' : Plain) (K : List (Act Txn)) (h : Hidden) (g : Stands p K h) (w : ℕ) (q : PostsRecord w p p') where
  abbrev pub post_hidden : Hidden
  post_hidden = record h { posted = at w (h.posted w ++ Record q.act ∷ []) h.posted }

  abbrev seated : Plain
  seated = record p { seats = slice_set p.seats w q.new }

  within : w < length p.seats
  within = seat_inside p h w q.seat q.new q.is

  post_core : core_of seated post_hidden ≡ with_outbox (with_worker (core_of p h) w (record ((core_of p h).workers w) { hand = Some (record q.hand { phase = Freeing q.act }) })) w
      (record ((core_of p h).outboxes w) { posted = ((core_of p h).outboxes w).posted ++ Record q.act ∷ [] })
  post_core =
      let c : List Committed = committed_by p.load.workers w p.committed in
      let f : ℕ → Option PlainSeat → Worker = λ k o. worker_in p.load o (committed_by p.load.workers k p.committed) in
      let b : ℕ → Option PlainSeat → Outbox = λ k o. record { posted = h.posted k; pending = pending_in o } in
      let b' : ℕ → Option PlainSeat → Outbox = λ k o. record { posted = post_hidden.posted k; pending = pending_in o } in
      λ l. record (core_of p h) {
        workers = (reads_got f p.seats w q.new within
            ∙ ap (λ (x : Worker). at w x (core_of p h).workers)
            (ap (λ (x : PlainSeat). seat_worker p.load x c) q.others
            ∙ (λ i. record (sym (worker_of_seat p h w q.seat q.new q.is) i) { hand = q.posted i }))) l;
        outboxes = (reads_changed b b' p.seats w q.new within (λ k ne o i. record { posted = at_other w (h.posted w ++ Record q.act ∷ []) h.posted k ne i; pending = pending_in o })
            ∙ ap (λ (x : Outbox). at w x (core_of p h).outboxes)
            (λ i. record { posted = at_same w (h.posted w ++ Record q.act ∷ []) h.posted i; pending = (ap (λ (x : PlainSeat). pending_in (Some x)) q.others ∙ ap pending_in (sym q.is)) i })) l;
      }

  pub post_leads : Leads (setting_of p.load) (Post w) (core_of p h) (core_of p' post_hidden) []
  post_leads = (
    record {
      hand = q.hand;
      act = q.act;
      is = ap (λ (x : Worker). x.hand) (worker_of_seat p h w q.seat q.new q.is) ∙ q.hand_is;
      phase = q.phase;
      after = ap (λ (x : Plain). core_of x post_hidden) q.after ∙ post_core;
    },
    refl,
  )

  pub post_stands : Stands p' K post_hidden
  post_stands =
      let posted_act = one_none p.load q.new (record q.hand { phase = Freeing q.act }) q.act q.posted refl in
      let opens : one_open p.load q.new ≤ one_open p.load q.seat = (let e = posted_act in omega arith) in
      let inv = kept (setting_of p.load) K (Post w) (core_of p h) (core_of p' post_hidden) g.inv post_leads in
      subst (λ (x : Plain). Stands x K post_hidden) (sym q.after) (record {
        sound = seat_sound p h w q.seat q.new q.is g.sound q.sound opens;
        inv = subst (λ (x : Plain). Invariant (setting_of p.load) K (core_of x post_hidden)) q.after inv;
        order = g.order;
        posted = each_else (λ k (t : PlainSeat). Paired (IsPieceOf p.load (anchors_at p)) t.outbox.pieces (post_hidden.posted k)) p.seats w q.new within
            (subst (λ (x : List Item). Paired (IsPieceOf p.load (anchors_at p)) q.new.outbox.pieces x) (sym (at_same w (h.posted w ++ Record q.act ∷ []) h.posted))
            (subst (λ (x : List Piece). Paired (IsPieceOf p.load (anchors_at p)) x (h.posted w ++ Record q.act ∷ [])) (sym q.pieces)
            (paired_append (IsPieceOf p.load (anchors_at p)) q.seat.outbox.pieces (record { start = q.seat.start; bytes = bytes_in q.seat.txn } ∷ []) (h.posted w) (Record q.act ∷ [])
            (g.posted w q.seat q.is) (g.placed w q.seat q.act q.is (ap placed_in q.hand_is ∙ ap placed_of q.phase), tt))))
            (λ k ne t e. subst (λ (x : List Item). Paired (IsPieceOf p.load (anchors_at p)) t.outbox.pieces x) (sym (at_other w (h.posted w ++ Record q.act ∷ []) h.posted k ne)) (g.posted k t e));
        own = g.own;
        placed = λ j x a e f. (each_got (λ l (y : PlainSeat). (b : Act Txn) → placed_in (hand_in p.load.procs y.txn) ≡ Some b → IsPieceOf p.load (anchors_at p) (record { start = y.start; bytes = bytes_in y.txn }) (Record b))
            p.seats w q.new within (λ b d. absurd (let bad : None ≡ Some b = sym (ap placed_in q.posted) ∙ d in cc)) (λ l y d b c. g.placed l y b d c)) j x e a f;
        gathered = g.gathered;
      })
