-- A record that has its place may be posted.
use Rattle.std.proofs.Common.{ℕ, ◌+◌, ◌%◌, ◌≡◌, ◌≤◌, List, length, refl, ap, ◌∙◌, arith}
use Rattle.std.specs.Prelude.{Some, slice_get, slice_index}
use Rattle.tau_model.specs.History.{Act, Member}
use Rattle.tau_machine.specs.Hands.{Txn}
use Rattle.tau_machine.specs.Worker.{Worker}
use Rattle.tau_machine.specs.State.{Record}
use Rattle.tau_machine.specs.Pieces.{placed_in}
use Rattle.tau_machine.proofs.Pieces.{chain_member}
use Rattle.tau_outbox.specs.Pieces.{end_of}
use Rattle.tau_txn.specs.Txn.{hand_in, bytes_in}
use Rattle.tau_core.specs.Plain.{PlainSeat}
use Rattle.tau_core.specs.State.{Plain}
use Rattle.tau_core.specs.View.{Hidden, core_of}
use Rattle.tau_core.specs.Stands.{Stands, anchors_at}
use Rattle.tau_core.proofs.AnchorNames.{end_low}
use Rattle.tau_core.proofs.Seats.{worker_of_seat}

module _ (p : Plain) (K : List (Act Txn)) (h : Hidden) (g : Stands p K h) (w : ℕ) (s : PlainSeat) (t : Act Txn) (is : slice_get p.seats w ≡ Some s)
    (placed : placed_in (hand_in p.load.procs s.txn) ≡ Some t) where
  shown : placed_in ((core_of p h).workers w).hand ≡ Some t
  shown = ap (λ (x : Worker). placed_in x.hand) (worker_of_seat p h w s s is) ∙ placed

  pub posts_order : end_of 0 s.outbox.pieces ≤ s.start
  posts_order =
      let piece = g.placed w s t is placed in
      let start = piece.start in
      end_low p.load (anchors_at p) 0 s.start s.outbox.pieces (h.posted w) (g.posted w s is) (omega arith)
      (λ i m. let low = g.inv.agrees.pieces.last w t i shown m in omega arith)

  pub posts_small : s.start + length (bytes_in s.txn) ≤ slice_index p.ends (w % p.load.streams)
  posts_small =
      let j : ℕ = w % p.load.streams in
      let there = g.inv.agrees.good.small w in
      let o = g.inv.agrees.pieces.stream j there in
      let among : Member (Record t) o.waiting = o.flying (Record t) (w, refl, (t, refl, shown)) in
      let up = (chain_member (slice_index p.gathered j) (slice_index p.ends j) o.waiting (Record t) o.rest among).2 in
      let past = (g.placed w s t is placed).past in
      omega arith
