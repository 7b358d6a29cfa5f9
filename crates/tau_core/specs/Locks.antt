-- Lock, on the parts.
use Rattle.std.specs.Prelude.{ℕ, ◌≡◌, Option, Some, None, [], ◌∷◌, ◌++◌, slice_get}
use Rattle.tau_base.specs.declared.value.Key.{Key}
use Rattle.tau_base.specs.declared.value.Mode.{Mode}
use Rattle.tau_txn.specs.declared.standing.Standing.{Standing}
use Rattle.tau_txn.specs.declared.standing.Standing.TheVariants.{LeftOver}
use Rattle.tau_txn.specs.Hand.{PlainHand}
use Rattle.tau_txn.specs.declared.action.Action.TheVariants as action
use Rattle.tau_txn.specs.Txn.{hand_in}
use Rattle.tau_txn.specs.Next as txn
use Rattle.tau_txn.specs.Next.{next_action}
use Rattle.tau_core.specs.declared.event.Phase.{Phase}
use Rattle.tau_core.specs.declared.event.Phase.TheVariants.{Locking, Quitting}
use Rattle.tau_core.specs.declared.event.Outcome.{Outcome}
use Rattle.tau_core.specs.declared.event.Outcome.TheVariants.{Went, Granted, Busy, NotNow, NoMemory}
use Rattle.tau_core.specs.Plain.{PlainSeat}
use Rattle.tau_core.specs.State.{Plain}
use Rattle.tau_core.specs.Phases.{hand_phase}
use Rattle.tau_core.specs.Workers.{Takes, IsRefused, StaysShort, GivesBack}

-- the phase is that of the call in hand, and another one than this
abbrev pub IsElsewhere : Plain → ℕ → Phase → Phase → Type 0
IsElsewhere p w wanted phase = (s : PlainSeat) → slice_get p.seats w ≡ Some s → (phase ≡ hand_phase p.load.procs (hand_in p.load.procs s.txn)) × (phase ≡ wanted → ⊥)

-- the phase is that of the call in hand
abbrev pub IsAtPhase : Plain → ℕ → Phase → Type 0
IsAtPhase p w phase = (s : PlainSeat) → slice_get p.seats w ≡ Some s → hand_phase p.load.procs (hand_in p.load.procs s.txn) ≡ phase

-- the call in hand takes its lock, or is refused it; nothing changes where it wants none or memory runs out
abbrev pub LockedBy : Plain → ℕ → Outcome → Plain → Type 0
LockedBy p w (Granted value) p' = Takes w value p p'
LockedBy p w (Busy holder) p' = IsRefused w holder p p'
LockedBy p w (NotNow phase) p' = (p' ≡ p) × IsElsewhere p w Locking phase
LockedBy p w NoMemory p' = StaysShort p p' × IsAtPhase p w Locking
LockedBy p w _ p' = ⊥

-- the call in hand is at its lock of this key
abbrev pub IsAtLock : Plain → ℕ → Key → Mode → Type 0
IsAtLock p w key mode = (s : PlainSeat) → slice_get p.seats w ≡ Some s → (next_action s.txn ≡ action.Lock key mode) × txn.Locks p.load.procs s.txn key mode

-- the call in hand gives its lowest key back
abbrev pub IsAtQuit : Plain → ℕ → Key → Type 0
IsAtQuit p w key = (s : PlainSeat) → slice_get p.seats w ≡ Some s → (next_action s.txn ≡ action.Quit key) × txn.Quits p.load.procs s.txn key

abbrev pub QuitBy : Plain → ℕ → Outcome → Plain → Type 0
QuitBy p w Went p' = GivesBack w p p'
QuitBy p w (NotNow phase) p' = (p' ≡ p) × IsElsewhere p w Quitting phase
QuitBy p w _ p' = ⊥

-- a call that is left over goes to the others that are, any other one stays
abbrev pub LeavesBy : Standing → PlainHand → PlainSeat → PlainSeat → Type 0
LeavesBy LeftOver h seat new = (new.txn ≡ record seat.txn { hand = None }) × (new.left ≡ seat.left ++ h.number ∷ []) × (new ≡ record seat { txn = new.txn; left = new.left; room = new.room })
LeavesBy _ h seat new = new ≡ seat

abbrev pub leaves_of : Option PlainHand → PlainSeat → PlainSeat → Type 0
leaves_of None seat new = new ≡ seat
leaves_of (Some h) seat new = LeavesBy h.standing h seat new

abbrev pub Leaves : PlainSeat → PlainSeat → Type 0
Leaves seat new = leaves_of seat.txn.hand seat new
