-- The seats: each knows what its actor has of its own.
use Rattle.std.specs.Prelude.{ℕ, ◌≡◌, Bool, true, Option, Some, None, List, [], ◌∷◌, length, replicate, slice_get}
use Rattle.atomic_table.specs.Seated.{TableId}
use Rattle.tau_machine.specs.State.{Ticket}
use Rattle.tau_txn.specs.Next.{next_action}
use Rattle.tau_txn.specs.declared.action.Action.TheVariants as action
use Rattle.tau_core.specs.State.{Plain}
use Rattle.tau_rule.specs.Boxes.{IsToPost}
use Rattle.tau_rule.specs.Role.{Clerking, Role}
use Rattle.tau_rule.specs.Knows.{Knows}
use Rattle.tau_rule.specs.Rule.{clerk_role, has, manager_role}
use Rattle.tau_rule.specs.Steps.{IsWorker, Sat}
use Rattle.tau_desk.specs.Shares.{IsStock, IsWork, PlainStock, PlainWork}

-- the seat of a worker: its table and its number there, what it knows and what it carries; its worker, what that has of its own, the newest anchor that it has read, and how far it has seen each stream persisted
pub record PlainWorkerSeat : Type 0 where
  pub table_id : TableId
  pub id : ℕ
  pub me : Sat
  pub worker : ℕ
  pub work : PlainWork
  pub read : ℕ × List ℕ
  pub seen : List ℕ

-- that of the manager of a stream
pub record PlainManagerSeat : Type 0 where
  pub table_id : TableId
  pub id : ℕ
  pub me : Sat
  pub stream : ℕ
  pub stock : PlainStock
  pub seen : List ℕ

-- the clerk's
pub record PlainClerkSeat : Type 0 where
  pub table_id : TableId
  pub id : ℕ
  pub me : Sat
  pub seen : List ℕ

-- the head's: of each actor what it has, where its role is not out
pub record PlainHead : Type 0 where
  pub table_id : TableId
  pub id : ℕ
  pub me : Sat
  pub workers : List (Option PlainWork)
  pub managers : List (Option PlainStock)
  pub clerk : Bool
  pub seen : List ℕ

-- the seat of a worker, with no part in hand
pub record IsWorkerSeat (m : Sat) (w : ℕ) (o : PlainWork) (read : ℕ × List ℕ) (seen : List ℕ) : Type 0 where
  pub origin : Plain
  pub role : Role
  pub seat : IsWorker origin m w role
  pub work : IsWork origin.load w role o
  pub read_is : m.0.read ≡ read
  pub read_wide : length read.1 ≡ origin.load.streams
  pub seen_is : m.0.seen ≡ seen
  pub seen_wide : length seen ≡ origin.load.streams
  -- a record that has its place is that of the call in hand
  pub posts : next_action o.txn ≡ action.Post → IsToPost origin m o.txn o.start

-- the seat of the manager of a stream
pub record IsManagerSeat (m : Sat) (j : ℕ) (o : PlainStock) (seen : List ℕ) : Type 0 where
  pub origin : Plain
  pub role : Role
  pub opened : m.0.opened ≡ Some origin
  pub roles : m.0.roles ≡ (manager_role origin.load j, role) ∷ []
  pub idle : m.0.hand ≡ None
  pub none : m.1 ≡ []
  pub stock : IsStock origin.load j role o
  pub seen_is : m.0.seen ≡ seen
  pub seen_wide : length seen ≡ origin.load.streams

-- the clerk's
pub record IsClerkSeat (m : Sat) (seen : List ℕ) : Type 0 where
  pub origin : Plain
  pub role : Role
  pub acked : List (List Ticket)
  pub opened : m.0.opened ≡ Some origin
  pub roles : m.0.roles ≡ (clerk_role origin.load, role) ∷ []
  pub idle : m.0.hand ≡ None
  pub none : m.1 ≡ []
  pub share : role.share ≡ Clerking acked
  pub wide : length acked ≡ origin.load.workers
  pub seen_is : m.0.seen ≡ seen
  pub seen_wide : length seen ≡ origin.load.streams

-- a worker, or a manager, whose role the head has
pub record HasWork (origin : Plain) (v : Knows) (w : ℕ) (o : PlainWork) : Type 0 where
  pub role : Role
  pub is : has w v ≡ Some role
  pub work : IsWork origin.load w role o
  -- no record waits for its post
  pub rests : next_action o.txn ≡ action.Post → ⊥

pub record HasStock (origin : Plain) (v : Knows) (j : ℕ) (o : PlainStock) : Type 0 where
  pub role : Role
  pub is : has (manager_role origin.load j) v ≡ Some role
  pub stock : IsStock origin.load j role o

-- the clerk's role, where the head has it
pub record HasClerk (origin : Plain) (v : Knows) : Type 0 where
  pub role : Role
  pub acked : List (List Ticket)
  pub is : has (clerk_role origin.load) v ≡ Some role
  pub share : role.share ≡ Clerking acked
  pub wide : length acked ≡ origin.load.workers

-- the seat from which all others are split off, with what the actors have whose roles are not out
pub record IsHead (m : Sat) (workers : List (Option PlainWork)) (managers : List (Option PlainStock)) (clerk : Bool) (seen : List ℕ) : Type 0 where
  pub origin : Plain
  pub opened : m.0.opened ≡ Some origin
  pub idle : m.0.hand ≡ None
  pub none : m.1 ≡ []
  pub read : m.0.read ≡ (0, replicate origin.load.streams 0)
  pub seen_is : m.0.seen ≡ seen
  pub seen_wide : length seen ≡ origin.load.streams
  pub worker_count : length workers ≡ origin.load.workers
  pub manager_count : length managers ≡ origin.load.streams
  pub worker : (w : ℕ) (o : PlainWork) → slice_get workers w ≡ Some (Some o) → HasWork origin m.0 w o
  pub manager : (j : ℕ) (o : PlainStock) → slice_get managers j ≡ Some (Some o) → HasStock origin m.0 j o
  pub clerk_is : clerk ≡ true → HasClerk origin m.0

abbrev pub Works : PlainWorkerSeat → Type 0
Works s = IsWorkerSeat s.me s.worker s.work s.read s.seen

abbrev pub Manages : PlainManagerSeat → Type 0
Manages s = IsManagerSeat s.me s.stream s.stock s.seen

abbrev pub Clerks : PlainClerkSeat → Type 0
Clerks s = IsClerkSeat s.me s.seen

abbrev pub Heads : PlainHead → Type 0
Heads s = IsHead s.me s.workers s.managers s.clerk s.seen
