-- An event that begins a call, where it is the call's first action.
use Rattle.std.specs.Prelude.{ℕ, ◌≡◌, ◌⊎◌, Some, None, length, slice_get}
use Rattle.tau_core.specs.declared.event.Phase.{Phase}
use Rattle.tau_core.specs.declared.event.Phase.TheVariants.{Resting}
use Rattle.tau_core.specs.declared.event.Outcome.{Outcome}
use Rattle.tau_core.specs.declared.event.Outcome.TheVariants.{NotNow, NoMemory}
use Rattle.tau_core.specs.Plain.{PlainSeat}
use Rattle.tau_core.specs.State.{Plain}
use Rattle.tau_core.specs.declared.begin.Mark.{Mark}
use Rattle.tau_core.specs.Stands.{Sound}
use Rattle.tau_core.specs.Begins.{next_number, HasNext, RoomMade, BeginsNext, IsRoomy, Undone, seat_at}

abbrev pub Rests : Plain → ℕ → Type 0
Rests p w = (s : PlainSeat) → slice_get p.seats w ≡ Some s → s.txn.hand ≡ None

-- the call of this number begins, for which room is made
pub record BegunAs (w n : ℕ) (p m : Plain) : Type 0 where
  pub roomy : Plain
  pub made : RoomMade w p roomy
  pub enough : IsRoomy w roomy
  pub begins : BeginsNext w n roomy m

-- and the mark tells where the worker stood
pub record BegunFrom (w n : ℕ) (p : Plain) (mark : Mark) (m : Plain) : Type 0 where
  pub as_begun : BegunAs w n p m
  pub marked : mark ≡ record { next = as_begun.begins.seat.next; again = as_begun.begins.seat.again }
  pub sound : Sound m
  -- what is tried next may change the other parts
  pub fresh : (t : Plain) → t.seats ≡ m.seats → (s : PlainSeat) → slice_get t.seats w ≡ Some s → seat_at s

-- it is begun, and undone since the event is not its first action, or memory ran out
pub record BegunUndone (inner : Plain → ℕ → Outcome → Plain → Type 0) (w n : ℕ) (p : Plain) (outcome : Outcome) (p' : Plain) : Type 0 where
  pub begun : Plain
  pub tried : Plain
  pub as_begun : BegunAs w n p begun
  pub refused : inner begun w outcome tried
  pub undone : Undone w as_begun.begins.seat.next as_begun.begins.seat.again tried p'

abbrev pub BeginsBy : (Plain → ℕ → Outcome → Plain → Type 0) → ℕ → ℕ → Plain → Outcome → Plain → Type 0
BeginsBy inner w n p (NotNow phase) p' = (phase ≡ Resting) × ((at : Phase) × BegunUndone inner w n p (NotNow at) p')
BeginsBy inner w n p NoMemory p' = RoomMade w p p' ⊎ BegunUndone inner w n p NoMemory p'
BeginsBy inner w n p outcome p' = (begun : Plain) × BegunAs w n p begun × inner begun w outcome p'

-- the worker has a call in hand
abbrev pub InHand : Plain → ℕ → Type 0
InHand p w = (s : PlainSeat) → slice_get p.seats w ≡ Some s → s.txn.hand ≡ None → ⊥

-- the call in hand does it, or that of a worker that rests which begins by it; and a worker that has none left rests
pub data ActsBy (inner : Plain → ℕ → Outcome → Plain → Type 0) (p : Plain) (w : ℕ) : Outcome → Plain → Type 0 where
  goes : {outcome : Outcome} {p' : Plain} → InHand p w → inner p w outcome p' → ActsBy inner p w outcome p'
  begins : {outcome : Outcome} {p' : Plain} (n : ℕ) → Rests p w → HasNext p w n → BeginsBy inner w n p outcome p' → ActsBy inner p w outcome p'
  rests : {outcome : Outcome} {p' : Plain} → (outcome ≡ NotNow Resting) → (p' ≡ p) → Rests p w → ((s : PlainSeat) → slice_get p.seats w ≡ Some s → next_number (length p.load.calls) s ≡ None) → ActsBy inner p w outcome p'
