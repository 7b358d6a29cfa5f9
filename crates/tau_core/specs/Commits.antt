-- Commit, on the parts.
use Rattle.std.specs.Prelude.{ℕ, true, ◌+◌, ◌%◌, ◌≡◌, ◌≤◌, Some, None, List, [], ◌∷◌, ◌++◌, length, slice_get, slice_index, slice_set}
use Rattle.tau_base.specs.Vectors.{join}
use Rattle.tau_proc.specs.Effect.{Effect}
use Rattle.tau_model.specs.History.{Act, updating}
use Rattle.tau_machine.specs.Hands.{Txn, Hand, Running, Placed, committed_of}
use Rattle.tau_machine.specs.Stage.{Ends, stage}
use Rattle.tau_machine.specs.State.{Record}
use Rattle.tau_machine.specs.Worker.{hand_joined, lock_of}
use Rattle.tau_outbox.specs.Pieces.{PlainOutbox}
use Rattle.tau_txn.specs.Txn.{hand_in, bytes_in}
use Rattle.tau_txn.specs.Next as txn
use Rattle.tau_txn.specs.Next.{next_action}
use Rattle.tau_txn.specs.declared.action.Action.TheVariants as action
use Rattle.tau_core.specs.declared.event.Phase.TheVariants as at_phase
use Rattle.tau_core.specs.declared.event.Outcome.{Outcome}
use Rattle.tau_core.specs.declared.event.Outcome.TheVariants.{NotNow, NoMemory}
use Rattle.tau_core.specs.declared.event.Outcome.TheVariants as outcome
use Rattle.tau_core.specs.Plain.{PlainSeat}
use Rattle.tau_core.specs.State.{Plain}
use Rattle.tau_core.specs.Stands.{SoundSeat, anchors_at, open_calls}
use Rattle.tau_core.specs.Pieces.{Names, newest_of, IsPieceOf}
use Rattle.tau_core.specs.Locks.{IsElsewhere, IsAtPhase}

abbrev pub stream_of : Plain → ℕ → ℕ
stream_of p w = w % p.load.streams

-- the call gets its place, and joins the committed ones; `base` is the vector of the anchor that it names, zero for none
pub record Commits (w start : ℕ) (p p' : Plain) : Type 0 where
  pub seat : PlainSeat
  pub hand : Hand
  pub effect : Effect
  pub number : ℕ
  pub base : List ℕ
  pub act : Act Txn
  pub new : PlainSeat
  pub room : ℕ
  pub is : slice_get p.seats w ≡ Some seat
  pub hand_is : hand_in p.load.procs seat.txn ≡ Some hand
  pub phase : hand.phase ≡ Running
  pub ended : stage p.load.procs hand.call.call hand.seen ≡ Ends effect
  pub locked : lock_of (stage p.load.procs hand.call.call hand.seen) hand.held ≡ None
  pub updates : updating effect.writes ≡ true
  pub named : Names p.load (stream_of p w) (anchors_at p (stream_of p w)) number base
  pub newest : number ≡ newest_of (slice_index p.load.opening.anchors.items (stream_of p w)) (anchors_at p (stream_of p w))
  pub wide : length base ≡ p.load.streams
  pub start_is : start ≡ slice_index p.ends (stream_of p w)
  pub act_is : act ≡ record {
    call = record { call = hand.call; worker = w; place = record { stream = stream_of p w; start = start; past = start + length (bytes_in new.txn); dep = join hand.dep base }; anchor = number };
    effect = effect;
  }
  pub longer : 1 ≤ length (bytes_in new.txn)
  pub placed : hand_in p.load.procs new.txn ≡ Some (hand_joined hand (Placed act) (join hand.dep base))
  pub piece : IsPieceOf p.load (anchors_at p) (record { start = new.start; bytes = bytes_in new.txn }) (Record act)
  pub pieces : new.outbox.pieces ≡ seat.outbox.pieces
  pub others : new ≡ record seat { txn = new.txn; start = new.start; outbox = new.outbox }
  pub sound : SoundSeat p.load w new
  pub rooms : open_calls p.load (slice_set p.seats w new) ≤ room
  pub after : p' ≡ record p {
    seats = slice_set p.seats w new;
    committed = p.committed ++ committed_of act ∷ [];
    room = room;
    ends = slice_set p.ends (stream_of p w) (start + length (bytes_in new.txn));
  }

-- room was made in the worker's outbox, and nothing else
pub record MakesRoom (w : ℕ) (p p' : Plain) : Type 0 where
  pub seat : PlainSeat
  pub outbox : PlainOutbox
  pub is : slice_get p.seats w ≡ Some seat
  pub pieces : outbox.pieces ≡ seat.outbox.pieces
  pub room : seat.outbox.room ≤ outbox.room
  pub after : p' ≡ record p { seats = slice_set p.seats w (record seat { outbox = outbox }) }

abbrev pub IsAtCommit : Plain → ℕ → Type 0
IsAtCommit p w = (s : PlainSeat) → slice_get p.seats w ≡ Some s → (size : ℕ) × (next_action s.txn ≡ action.Commit size) × txn.Commits p.load.procs s.txn size

abbrev pub CommitBy : Plain → ℕ → Outcome → Plain → Type 0
CommitBy p w (outcome.Placed start) p' = Commits w start p p'
CommitBy p w NoMemory p' = MakesRoom w p p' × IsAtPhase p w at_phase.Ready
CommitBy p w (NotNow phase) p' = (p' ≡ p) × IsElsewhere p w at_phase.Ready phase
CommitBy p w _ p' = ⊥
