-- The ends of a desk: what it opens with, what leaves the head and comes back, and what it gives when it closes.
use Rattle.std.specs.Prelude.{ℕ, ◌+◌, ◌/◌, ◌<◌, ◌≤◌, ◌≡◌, true, false, Some, None, List, [], ◌∷◌, length, replicate, slice_get, slice_set}
use Rattle.tau_machine.specs.Hands.{Hand, act_of}
use Rattle.tau_machine.specs.Reports.{in_turn}
use Rattle.tau_txn.specs.Txn.{has_joined, held_in}
use Rattle.tau_core.specs.Opens.{Opened}
use Rattle.tau_core.specs.Parts.{all_idle}
use Rattle.tau_core.specs.Plain.{PlainSeat}
use Rattle.tau_core.specs.Stands.{Stands}
use Rattle.tau_core.specs.State.{Plain}
use Rattle.tau_core.specs.View.{Hidden, core_of}
use Rattle.tau_occ.specs.declared.style.Style.{Style}
use Rattle.tau_rule.specs.Role.{Role}
use Rattle.tau_rule.specs.Knows.{Knows}
use Rattle.tau_core.specs.declared.state.Load.{Load}
use Rattle.tau_rule.specs.Rule.{IsOutbox, IsRole, Meets, Now, Sees, anchors_at, clerk_role, has, manager_role}
use Rattle.tau_rule.specs.Heads.{left_by, split_off}
use Rattle.tau_rule.specs.First.{first_view}
use Rattle.tau_rule.specs.Steps.{Sat}
use Rattle.tau_desk.specs.Seats.{PlainClerkSeat, PlainHead, PlainManagerSeat, PlainWorkerSeat}
use Rattle.tau_desk.specs.Shares.{PlainWork}

-- the head's seat when the desk has just opened with this core
pub record IsFirst (origin : Plain) (m : Sat) : Type 0 where
  pub opened : Opened origin.load origin
  pub knows : m ≡ (first_view origin, [])

-- no role is out
pub record IsWhole (h : PlainHead) : Type 0 where
  pub workers : (w : ℕ) → slice_get h.workers w ≡ Some None → ⊥
  pub managers : (j : ℕ) → slice_get h.managers j ≡ Some None → ⊥
  pub clerk : h.clerk ≡ true

-- the role leaves the head for a new seat
pub record IsSplitOff (role : ℕ) (head head' new : Sat) : Type 0 where
  pub head_is : head' ≡ (left_by role head.0, [])
  pub new_is : new ≡ (split_off role head.0, [])

-- of how many calls a worker makes room, which is of all its own
abbrev pub calls_each : Load → ℕ
calls_each l = length l.calls / l.workers + 1

-- the seat of a worker leaves the head, which has what the worker has of its own, with room for so many more committed calls
pub record IsWorkerSplit (w calls : ℕ) (head head' : PlainHead) (new : PlainWorkerSeat) : Type 0 where
  pub split : IsSplitOff w head.me head'.me new.me
  pub left : head' ≡ record head { me = head'.me; workers = slice_set head.workers w None }
  pub table : new.table_id ≡ head.table_id
  pub worker : new.worker ≡ w
  pub room : ℕ
  pub work : slice_get head.workers w ≡ Some (Some (record new.work { committed_room = room }))
  pub roomy : calls ≤ new.work.committed_room
  pub read : new.read ≡ (0, replicate (length head.seen) 0)
  pub seen : new.seen ≡ head.seen

-- the seat of the manager of a stream
pub record IsManagerSplit (l : Load) (j : ℕ) (head head' : PlainHead) (new : PlainManagerSeat) : Type 0 where
  pub split : IsSplitOff (manager_role l j) head.me head'.me new.me
  pub left : head' ≡ record head { me = head'.me; managers = slice_set head.managers j None }
  pub table : new.table_id ≡ head.table_id
  pub stream : new.stream ≡ j
  pub stock : slice_get head.managers j ≡ Some (Some new.stock)
  pub seen : new.seen ≡ head.seen

-- the clerk's
pub record IsClerkSplit (l : Load) (head head' : PlainHead) (new : PlainClerkSeat) : Type 0 where
  pub split : IsSplitOff (clerk_role l) head.me head'.me new.me
  pub left : head' ≡ record head { me = head'.me; clerk = false }
  pub table : new.table_id ≡ head.table_id
  pub seen : new.seen ≡ head.seen

-- the head knows that the actor of its first role has raised the stop
abbrev pub first_raised : List (ℕ × Role) → List (ℕ × Role)
first_raised [] = []
first_raised (x ∷ xs) = (x.0, record x.1 { raised = true }) ∷ xs

abbrev pub told_head_raised : Knows → Knows
told_head_raised v = record v { roles = first_raised v.roles }

-- the head has each role
abbrev pub HasAll : Plain → Knows → Type 0
HasAll origin v = (u : ℕ) → u < origin.load.workers + origin.load.streams + 1 → (y : Role) × (has u v ≡ Some y)

-- no worker's call in hand holds a key or has committed
abbrev pub AreResting : PlainHead → Type 0
AreResting h = (w : ℕ) (o : PlainWork) → slice_get h.workers w ≡ Some (Some o) → (held_in o.txn ≡ []) × (has_joined o.txn ≡ false)

-- at the close: all that the head knows, and each outbox of the core, are of one state that events lead to, and the core is that state's, where each call in hand is let go
pub record IsClosing (origin : Plain) (style : Style) (v : Knows) (result : Plain) : Type 0 where
  pub state : Now
  pub meets : Meets origin style state
  pub sees : Sees origin state v
  pub roles : (u : ℕ) (r : Role) → has u v ≡ Some r → IsRole origin.load u r state
  -- the head has each role, and no call in hand holds a key or has committed
  pub all : HasAll origin v
  pub loose : (w : ℕ) (h : Hand) → (state.core.workers w).hand ≡ Some h → (act_of h.phase ≡ None) × (h.held ≡ [])
  pub box : (w : ℕ) (x : PlainSeat) → slice_get result.seats w ≡ Some x → IsOutbox origin.load x.outbox x.pending (anchors_at state.core) (state.core.outboxes w)
  pub load : result.load ≡ origin.load
  pub hidden : Hidden
  pub stands : Stands result meets.reached.joined hidden
  pub core : core_of result hidden ≡ all_idle state.core
  -- the calls of each worker, worker after worker
  pub committed : result.committed ≡ in_turn origin.load.workers (λ w. (state.core.workers w).committed)
