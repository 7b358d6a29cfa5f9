-- What an actor has of its own at run time, and how it is what its seat knows.
use Rattle.std.specs.Prelude.{ℕ, ◌+◌, ◌<◌, ◌≤◌, ◌≡◌, is_some, true, false, Option, Some, None, List, [], ◌∷◌, ◌++◌, length}
use Rattle.tau_base.specs.declared.limits.TheConstants.{MAX_LSN}
use Rattle.tau_model.specs.declared.committed.Committed.{Committed}
use Rattle.tau_model.specs.History.{Member}
use Rattle.tau_machine.specs.Hands.{Hand}
use Rattle.tau_machine.specs.Worker.{Worker, begun}
use Rattle.tau_outbox.specs.Pieces.{PlainOutbox, bytes_of, end_of}
use Rattle.tau_outbox.specs.declared.Piece.{Piece}
use Rattle.tau_txn.specs.Txn.{PlainTxn, RunsBy, hand_in, has_joined}
use Rattle.tau_txn.specs.Next.{next_action}
use Rattle.tau_txn.specs.declared.action.Action.TheVariants as action
use Rattle.tau_core.specs.declared.state.Load.{Load}
use Rattle.tau_core.specs.View.{again_in, all_numbered, call_of, from_on}
use Rattle.tau_core.specs.Stands.{AreNumbers, IsNumber}
use Rattle.tau_desk.specs.declared.mark.Mark.{Mark}
use Rattle.tau_rule.specs.Role.{Managed, Managing, Role, Working}

-- a worker's: the number of its next call, a call left over that comes before, the call in hand, where its record starts from its place to its post, the numbers of the calls left over and how many more are put there
-- without memory, the committed calls and how many more, how much room its outbox has at least, and where it stood among its calls before the call in hand, until that has made an event
pub record PlainWork : Type 0 where
  pub next : ℕ
  pub again : Option ℕ
  pub txn : PlainTxn
  pub start : ℕ
  pub left : List ℕ
  pub left_room : ℕ
  pub committed : List Committed
  pub committed_room : ℕ
  pub spare : ℕ × ℕ
  pub mark : Option Mark

-- a manager's: the vectors of its anchors and how many more are put there without memory, the anchor records that it has not gathered, and where what it gathered ends
pub record PlainStock : Type 0 where
  pub anchors : List (List ℕ)
  pub room : ℕ
  pub own : PlainOutbox
  pub gathered : ℕ

-- the worker that this shows
abbrev pub own_worker : Load → PlainWork → Worker
own_worker l o = record {
  waiting = again_in l.calls o.again ++ from_on l.calls l.workers o.next;
  hand = hand_in l.procs o.txn;
  left = all_numbered l.calls o.left;
  committed = o.committed;
}

-- as it was before the call in hand was begun
abbrev pub unbegun : PlainWork → Mark → PlainWork
unbegun o k = record o { next = k.next; again = k.again; txn = record o.txn { hand = None }; mark = None }

-- it is what it shows; while the call in hand has made no event, it is what that shows without the call, which comes next
abbrev pub ShowsWorker : Load → Worker → PlainWork → Option Mark → Type 0
ShowsWorker l wk o None = wk ≡ own_worker l o
ShowsWorker l wk o (Some k) = (wk ≡ own_worker l (unbegun o k)) × (begun l.streams wk ≡ own_worker l o)

-- a worker of the run may stand there among its calls
pub record IsMark (l : Load) (k : Mark) : Type 0 where
  pub low : 1 ≤ k.next
  pub high : k.next ≤ length l.calls + l.workers
  pub again : (n : ℕ) → k.again ≡ Some n → IsNumber l n

-- what a worker has is of the run, and a call in hand has the room that it will need
pub record FitsWork (l : Load) (w : ℕ) (o : PlainWork) : Type 0 where
  pub worker : o.txn.worker ≡ w
  pub width : o.txn.width ≡ l.streams
  pub mode : o.txn.mode ≡ l.mode
  pub runs : RunsBy l.procs o.txn
  -- a call that is left over does not stay in the hand
  pub stays : is_some o.txn.hand ≡ is_some (hand_in l.procs o.txn)
  pub call : (h : Hand) → hand_in l.procs o.txn ≡ Some h → call_of l.calls h.call.number ≡ Some h.call.call
  pub low : 1 ≤ o.next
  pub high : o.next ≤ length l.calls + l.workers
  pub again : (n : ℕ) → o.again ≡ Some n → IsNumber l n
  pub mark : (k : Mark) → o.mark ≡ Some k → IsMark l k
  pub left : AreNumbers l o.left
  pub leaves : is_some o.txn.hand ≡ true → 1 ≤ o.left_room
  pub ends : is_some o.txn.hand ≡ true → 1 ≤ o.spare.1
  pub posts : next_action o.txn ≡ action.Post → 1 ≤ o.spare.0
  pub commits : is_some o.txn.hand ≡ true → has_joined o.txn ≡ false → 1 ≤ o.committed_room

-- the role is this worker's, and what it has is what the role knows
pub record IsWork (l : Load) (w : ℕ) (role : Role) (o : PlainWork) : Type 0 where
  pub worker : Worker
  pub share : role.share ≡ Working worker
  pub there : w < l.workers
  pub shows : ShowsWorker l worker o o.mark
  pub fits : FitsWork l w o
  pub spare : role.spare ≡ o.spare

-- the role is the manager's of this stream, and what it has is what the role knows
pub record IsStock (l : Load) (j : ℕ) (role : Role) (o : PlainStock) : Type 0 where
  pub managed : Managed
  pub share : role.share ≡ Managing managed
  pub there : j < l.streams
  pub anchors : managed.anchors ≡ o.anchors
  pub own : managed.own ≡ o.own.pieces
  pub gathered : managed.gathered ≡ o.gathered
  pub small : o.gathered < MAX_LSN
  pub wide : (a : List ℕ) → Member a o.anchors → length a ≡ l.streams

-- none of these records is empty
abbrev pub HaveBytes : List Piece → Type 0
HaveBytes [] = Unit {0}
HaveBytes (p ∷ ps) = (1 ≤ length p.bytes) × HaveBytes ps

-- these records have so many bytes, none is empty, and the last one ends no earlier than that
pub record AreCounted (count : ℕ) (pieces : List Piece) : Type 0 where
  pub all : count ≡ length (bytes_of pieces)
  pub each : HaveBytes pieces
  pub within : count ≤ end_of 0 pieces
