-- How a worker that rests begins its next call.
use Rattle.std.specs.Prelude.{ℕ, ◌+◌, ◌≡◌, ◌≤◌, false, Option, Some, None, [], if◌then◌else◌, nat_le, length, slice_get, slice_set}
use Rattle.tau_base.specs.declared.limits.TheConstants.{MAX_WORKERS}
use Rattle.tau_base.specs.declared.value.Call.{Call}
use Rattle.tau_machine.specs.Worker.{fresh}
use Rattle.tau_ack.specs.Pending.{PlainPending}
use Rattle.tau_txn.specs.Txn.{hand_in, RunsBy, leaves_in, has_joined, held_in}
use Rattle.tau_core.specs.Plain.{PlainSeat}
use Rattle.tau_core.specs.State.{Plain}
use Rattle.tau_core.specs.View.{call_of}

-- the number of a worker's next call, where there are so many calls
abbrev pub number_by : ℕ → ℕ → Option ℕ → Option ℕ
number_by calls next (Some n) = Some n
number_by calls next None = if nat_le next calls then Some next else None

abbrev pub next_number : ℕ → PlainSeat → Option ℕ
next_number calls s = number_by calls s.next s.again

-- the next call of the worker has this number
abbrev pub HasNext : Plain → ℕ → ℕ → Type 0
HasNext p w n = (s : PlainSeat) → slice_get p.seats w ≡ Some s → next_number (length p.load.calls) s ≡ Some n

abbrev pub next_behind : ℕ → ℕ → Option ℕ → ℕ
next_behind workers next (Some n) = next
next_behind workers next None = next + workers

-- room was made, and nothing else
pub record RoomMade (w : ℕ) (p p' : Plain) : Type 0 where
  pub seat : PlainSeat
  pub pending : PlainPending
  pub left : ℕ
  pub room : ℕ
  pub is : slice_get p.seats w ≡ Some seat
  pub calls : pending.calls ≡ seat.pending.calls
  pub pending_room : seat.pending.room ≤ pending.room
  pub left_room : seat.room ≤ left
  pub rooms : p.room ≤ room
  pub after : p' ≡ record p { seats = slice_set p.seats w (record seat { pending = pending; room = left }); room = room }

-- enough for a call of the worker, and for one of each other
pub record IsRoomy (w : ℕ) (p : Plain) : Type 0 where
  pub committed : MAX_WORKERS ≤ p.room
  pub seat : (s : PlainSeat) → slice_get p.seats w ≡ Some s → (1 ≤ s.pending.room) × (1 ≤ s.room)

-- the next call begins
pub record BeginsNext (w n : ℕ) (p p' : Plain) : Type 0 where
  pub seat : PlainSeat
  pub new : PlainSeat
  pub call : Call
  pub is : slice_get p.seats w ≡ Some seat
  pub call_is : call_of p.load.calls n ≡ Some call
  pub begun : hand_in p.load.procs new.txn ≡ Some (fresh seat.txn.width (record { number = n; call = call }) 0)
  pub runs : RunsBy p.load.procs new.txn
  pub stays : leaves_in new.txn ≡ false
  pub same : new.txn ≡ record seat.txn { hand = new.txn.hand }
  pub others : new ≡ record seat { txn = new.txn; next = next_behind p.load.workers seat.next seat.again; again = None }
  pub after : p' ≡ record p { seats = slice_set p.seats w new }

-- a call that has just begun
abbrev pub seat_at : PlainSeat → Type 0
seat_at s = (has_joined s.txn ≡ false) × (held_in s.txn ≡ [])

-- it is as if it had not
pub record Undone (w next : ℕ) (again : Option ℕ) (p p' : Plain) : Type 0 where
  pub seat : PlainSeat
  pub new : PlainSeat
  pub is : slice_get p.seats w ≡ Some seat
  pub gone : new.txn.hand ≡ None
  pub same : new.txn ≡ record seat.txn { hand = new.txn.hand }
  pub others : new ≡ record seat { txn = new.txn; next = next; again = again }
  pub after : p' ≡ record p { seats = slice_set p.seats w new }
