-- Calls that are left over, and the one that goes back to its worker.
use Rattle.std.specs.Prelude.{ℕ, ◌≡◌, ◌≤◌, ◌⊎◌, Option, Some, None, List, [], length, if◌then◌else◌, nat_le, slice_get, slice_set}
use Rattle.std.specs.List.{remove}
use Rattle.tau_model.specs.History.{Act}
use Rattle.tau_machine.specs.Hands.{Txn}
use Rattle.tau_machine.specs.State.{Core}
use Rattle.tau_machine.specs.Events as machine
use Rattle.tau_machine.specs.Events.{Resumes}
use Rattle.tau_core.specs.declared.state.Load.{Load}
use Rattle.tau_core.specs.declared.resume.LeftOver.{LeftOver}
use Rattle.tau_core.specs.Plain.{PlainSeat}
use Rattle.tau_core.specs.State.{Plain}
use Rattle.tau_core.specs.View.{setting_of, Hidden, core_of}
use Rattle.tau_core.specs.Begins.{next_number}
use Rattle.tau_core.specs.Steps.{Happened, Unmoved}

-- a worker has no call in hand and none to begin
abbrev pub RestsSeat : Load → PlainSeat → Type 0
RestsSeat l s = (s.txn.hand ≡ None) × (next_number (length l.calls) s ≡ None)

-- no worker has
abbrev pub AllRest : Plain → Type 0
AllRest p = (w : ℕ) (s : PlainSeat) → slice_get p.seats w ≡ Some s → RestsSeat p.load s

-- the lower of two, of equal ones the first
abbrev pub lower : Option LeftOver → Option LeftOver → Option LeftOver
lower None b = b
lower (Some a) None = Some a
lower (Some a) (Some b) = if nat_le a.number b.number then Some a else Some b

-- the call stands there among those of its worker
pub record IsLeftAt (seats : List PlainSeat) (l : LeftOver) : Type 0 where
  pub seat : PlainSeat
  pub is : slice_get seats l.worker ≡ Some seat
  pub number : slice_get seat.left l.at ≡ Some l.number

-- it is the lowest of these calls of one worker, where there are any
abbrev pub IsLowestIn : ℕ → List ℕ → Option LeftOver → Type 0
IsLowestIn w numbers None = numbers ≡ []
IsLowestIn w numbers (Some l) = (l.worker ≡ w) × (slice_get numbers l.at ≡ Some l.number) × ((i n : ℕ) → slice_get numbers i ≡ Some n → l.number ≤ n)

-- it is the lowest of all that are left over, where there are any
abbrev pub IsLowestOf : List PlainSeat → Option LeftOver → Type 0
IsLowestOf seats None = (w : ℕ) (s : PlainSeat) → slice_get seats w ≡ Some s → s.left ≡ []
IsLowestOf seats (Some l) = IsLeftAt seats l × ((w : ℕ) (s : PlainSeat) (i n : ℕ) → slice_get seats w ≡ Some s → slice_get s.left i ≡ Some n → l.number ≤ n)

-- the call is its worker's next one
pub record TakesBack (l : LeftOver) (p p' : Plain) : Type 0 where
  pub seat : PlainSeat
  pub room : ℕ
  pub is : slice_get p.seats l.worker ≡ Some seat
  pub number : slice_get seat.left l.at ≡ Some l.number
  pub rooms : seat.room ≤ room
  pub after : p' ≡ record p { seats = slice_set p.seats l.worker (record seat { again = Some l.number; left = remove seat.left l.at; room = room }) }

abbrev pub ResumedBy : Plain → Option ℕ → Plain → Type 0
ResumedBy p None p' = (p' ≡ p) × ((AllRest p → ⊥) ⊎ IsLowestOf p.seats None)
ResumedBy p (Some w) p' = (l : LeftOver) × (w ≡ l.worker) × AllRest p × IsLowestOf p.seats (Some l) × TakesBack l p p'

-- the lowest call that was left over went back to this worker; or nothing changed, and the machine has no such event here
module _ (p p' : Plain) (K : List (Act Txn)) (h : Hidden) where
  abbrev pub ResumeSteps : Option ℕ → Type 0
  ResumeSteps (Some w) = Happened (machine.Resume w) p p' K h
  ResumeSteps None = Unmoved p p' K h × ((w : ℕ) (s' : Core) → Resumes (setting_of p.load) w (core_of p h) s' → ⊥)
