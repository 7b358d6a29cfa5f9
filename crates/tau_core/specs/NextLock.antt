-- The lock that a worker takes next.
use Rattle.std.specs.Prelude.{ℕ, ◌≡◌, ◌⊎◌, Option, Some, None, List, length}
use Rattle.tau_base.specs.declared.value.Call.{Call}
use Rattle.tau_base.specs.declared.value.Key.{Key}
use Rattle.tau_base.specs.declared.value.Mode.{Mode}
use Rattle.tau_proc.specs.declared.proc.Proc.{Proc}
use Rattle.tau_machine.specs.Hands.{Hand, Running}
use Rattle.tau_machine.specs.Stage.{stage}
use Rattle.tau_machine.specs.Worker.{fresh, lock_of}
use Rattle.tau_machine.specs.Events.{ready}
use Rattle.tau_txn.specs.Txn.{hand_in}
use Rattle.tau_core.specs.declared.state.Load.{Load}
use Rattle.tau_core.specs.declared.event.Phase.TheVariants.{Locking}
use Rattle.tau_core.specs.Plain.{PlainSeat}
use Rattle.tau_core.specs.State.{Plain}
use Rattle.tau_core.specs.View.{call_of, setting_of, Hidden, core_of}
use Rattle.tau_core.specs.Begins.{next_number}
use Rattle.tau_core.specs.Phases.{hand_phase}

-- the call in this hand is at this lock
pub record IsAt (procs : List Proc) (o : Option Hand) (r : ℕ × Key × Mode) : Type 0 where
  pub hand : Hand
  pub is : o ≡ Some hand
  pub phase : hand.phase ≡ Running
  pub number : r.0 ≡ hand.call.number
  pub next : lock_of (stage procs hand.call.call hand.seen) hand.held ≡ Some (r.1, r.2)

-- it is at this lock, or at none
abbrev pub TellsHand : List Proc → Option Hand → Option (ℕ × Key × Mode) → Type 0
TellsHand procs o (Some r) = IsAt procs o r
TellsHand procs o None = hand_phase procs o ≡ Locking → ⊥

-- the call of this number, when it begins
abbrev pub begun_hand : Load → ℕ → Call → Option Hand
begun_hand l n c = Some (fresh l.streams (record { number = n; call = c }) 0)

abbrev pub TellsFirst : Load → ℕ → Option (ℕ × Key × Mode) → Type 0
TellsFirst l n r = (c : Call) × (call_of l.calls n ≡ Some c) × TellsHand l.procs (begun_hand l n c) r

-- the call in hand tells it, or the next one, which may be none
abbrev pub IsNextLock : Load → PlainSeat → Option (ℕ × Key × Mode) → Type 0
IsNextLock l s r =
    ((s.txn.hand ≡ None → ⊥) × TellsHand l.procs (hand_in l.procs s.txn) r) ⊎
    ((s.txn.hand ≡ None) × (((n : ℕ) × (next_number (length l.calls) s ≡ Some n) × TellsFirst l n r) ⊎ ((next_number (length l.calls) s ≡ None) × (r ≡ None))))

-- the worker's call, also of a worker that rests and would begin it, is at this lock, or at none
abbrev pub TellsLock : Plain → Hidden → ℕ → Option (ℕ × Key × Mode) → Type 0
TellsLock p h w r = TellsHand p.load.procs (ready (setting_of p.load) (core_of p h) w).hand r
