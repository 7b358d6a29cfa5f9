-- A worker does not take the lock that its call wants.
use Rattle.std.specs.Prelude.{ℕ, ◌≡◌, Some, List, slice_get, slice_set}
use Rattle.tau_base.specs.declared.value.Key.{Key}
use Rattle.tau_base.specs.declared.value.Mode.{Mode}
use Rattle.tau_model.specs.History.{Act}
use Rattle.tau_model.specs.declared.committed.Committed.{Committed}
use Rattle.tau_machine.specs.Hands.{Txn, Hand}
use Rattle.tau_machine.specs.Worker.{settled, hand_busy}
use Rattle.tau_machine.specs.Events as machine
use Rattle.tau_txn.specs.declared.action.Action.TheVariants as action
use Rattle.tau_txn.specs.Next as txn
use Rattle.tau_txn.specs.Next.{next_action}
use Rattle.tau_core.specs.declared.event.Phase.TheVariants.{Locking}
use Rattle.tau_core.specs.declared.event.Outcome.{Outcome}
use Rattle.tau_core.specs.declared.event.Outcome.TheVariants.{Went, NotNow, NoMemory}
use Rattle.tau_core.specs.Plain.{PlainSeat}
use Rattle.tau_core.specs.State.{Plain}
use Rattle.tau_core.specs.View.{Hidden, seat_worker}
use Rattle.tau_core.specs.Stands.{SoundSeat}
use Rattle.tau_core.specs.Workers.{Wants, Keeps}
use Rattle.tau_core.specs.Locks.{IsElsewhere}
use Rattle.tau_core.specs.Steps.{Happened, Unmoved, StandsElsewhere, WouldBegin}

-- the call in hand is at some lock
abbrev pub IsAtSome : Plain → ℕ → Type 0
IsAtSome p w = (s : PlainSeat) → slice_get p.seats w ≡ Some s → (key : Key) × (mode : Mode) × (next_action s.txn ≡ action.Lock key mode) × txn.Locks p.load.procs s.txn key mode

-- the call in hand, at a lock, meets Busy once more
pub record GivesWay (w : ℕ) (p p' : Plain) : Type 0 where
  pub seat : PlainSeat
  pub hand : Hand
  pub key : Key
  pub mode : Mode
  pub new : PlainSeat
  pub is : slice_get p.seats w ≡ Some seat
  pub wants : Wants p seat hand key mode
  pub settles : (c : List Committed) → seat_worker p.load new c ≡ settled p.load.streams (seat_worker p.load seat c) (hand_busy hand)
  pub keeps : Keeps seat new
  pub sound : SoundSeat p.load w new
  pub after : p' ≡ record p { seats = slice_set p.seats w new }

abbrev pub RetriedBy : Plain → ℕ → Outcome → Plain → Type 0
RetriedBy p w Went p' = GivesWay w p p'
RetriedBy p w (NotNow phase) p' = (p' ≡ p) × IsElsewhere p w Locking phase
RetriedBy p w _ p' = ⊥

-- the call met Busy; or nothing changed, since its next action is no lock, or the worker rested and memory ran out to begin its call
module _ (p p' : Plain) (K : List (Act Txn)) (h : Hidden) where
  abbrev pub RetrySteps : ℕ → Outcome → Type 0
  RetrySteps w Went = Happened (machine.Busy w) p p' K h
  RetrySteps w (NotNow phase) = Unmoved p p' K h × StandsElsewhere p h w Locking phase
  RetrySteps w NoMemory = Unmoved p p' K h × WouldBegin p h w
  RetrySteps w _ = ⊥
