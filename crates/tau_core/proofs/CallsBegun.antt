-- A worker that rests begins its next call.
use Rattle.std.specs.Prelude.{ℕ, ◌≡◌, ◌≤◌, Some, None, List, ◌∷◌, ◌++◌, slice_get, slice_set}
use Rattle.tau_model.specs.History.{Numbered}
use Rattle.tau_machine.specs.Worker.{fresh}
use Rattle.tau_txn.specs.Txn.{hand_in}
use Rattle.tau_core.specs.declared.state.Load.{Load}
use Rattle.tau_core.specs.Plain.{PlainSeat}
use Rattle.tau_core.specs.State.{Plain}
use Rattle.tau_core.specs.View.{again_in, from_on}
use Rattle.tau_core.specs.Stands.{SoundSeat, open_calls}

-- the calls that the worker has not begun
abbrev pub waiting_in : Load → PlainSeat → List Numbered
waiting_in l s = again_in l.calls s.again ++ from_on l.calls l.workers s.next

-- a worker that rests begins its next call
pub record Begins (w : ℕ) (p p' : Plain) : Type 0 where
  pub seat : PlainSeat
  pub new : PlainSeat
  pub call : Numbered
  pub room : ℕ
  pub is : slice_get p.seats w ≡ Some seat
  pub rests : hand_in p.load.procs seat.txn ≡ None
  pub next : waiting_in p.load seat ≡ call ∷ waiting_in p.load new
  pub begun : hand_in p.load.procs new.txn ≡ Some (fresh p.load.streams call 0)
  pub left : new.left ≡ seat.left
  pub pieces : new.outbox ≡ seat.outbox
  pub pending : new.pending.calls ≡ seat.pending.calls
  pub sound : SoundSeat p.load w new
  pub rooms : open_calls p.load (slice_set p.seats w new) ≤ room
  pub after : p' ≡ record p { seats = slice_set p.seats w new; room = room }
