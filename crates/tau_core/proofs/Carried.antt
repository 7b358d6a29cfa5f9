-- What the parts keep beside the invariant of the machine.
use Rattle.std.specs.Prelude.{ℕ, ◌≡◌, Some, List, ◌++◌, map, slice_get}
use Rattle.tau_model.specs.History.{Act, Reordered}
use Rattle.tau_machine.specs.Hands.{Txn, committed_of}
use Rattle.tau_machine.specs.Pieces.{placed_in}
use Rattle.tau_machine.specs.State.{Record}
use Rattle.tau_txn.specs.Txn.{hand_in, bytes_in}
use Rattle.tau_core.specs.Plain.{PlainSeat, PlainStream}
use Rattle.tau_core.specs.State.{Plain}
use Rattle.tau_core.specs.View.{Hidden}
use Rattle.tau_core.specs.Stands.{Sound, anchors_at}
use Rattle.tau_core.specs.Pieces.{IsPieceOf, Paired, Spelled}

pub record Carried (p : Plain) (K : List (Act Txn)) (h : Hidden) : Type 0 where
  pub sound : Sound p
  pub order : Reordered (map committed_of K) p.committed
  pub posted : (w : ℕ) (s : PlainSeat) → slice_get p.seats w ≡ Some s → Paired (IsPieceOf p.load (anchors_at p)) s.outbox.pieces (h.posted w)
  pub own : (j : ℕ) (s : PlainStream) → slice_get p.streams j ≡ Some s → Paired (IsPieceOf p.load (anchors_at p)) s.own.pieces (h.own j)
  pub placed : (w : ℕ) (s : PlainSeat) (t : Act Txn) → slice_get p.seats w ≡ Some s → placed_in (hand_in p.load.procs s.txn) ≡ Some t →
      IsPieceOf p.load (anchors_at p) (record { start = s.start; bytes = bytes_in s.txn }) (Record t)
  pub gathered : (j : ℕ) (s : PlainStream) → slice_get p.streams j ≡ Some s → Spelled p.load (anchors_at p) (h.moved j) (h.taken j ++ s.body)
