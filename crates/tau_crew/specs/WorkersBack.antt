-- What workers have done, each on a seat that left the head, when the head has their roles again.
use Rattle.std.specs.Prelude.{ℕ, ◌<◌, ◌≤◌, ◌≡◌, ◌⊎◌, Bool, true, false, Option, Some, None, [], is_err, length, slice_get, Result}
use Rattle.tau_base.specs.declared.value.NoMemory.{NoMemory}
use Rattle.tau_machine.specs.Accounts.{in_calls, in_worker}
use Rattle.tau_machine.specs.Worker.{Worker}
use Rattle.tau_txn.specs.Txn.{held_in}
use Rattle.tau_core.specs.Opens.{calls_of}
use Rattle.tau_core.specs.declared.state.Load.{Load}
use Rattle.tau_rule.specs.Role.{Role}
use Rattle.tau_rule.specs.Rule.{has}
use Rattle.tau_rule.specs.Steps.{worker_in_share}
use Rattle.tau_desk.specs.declared.desk.Desk.{Desk}
use Rattle.tau_desk.specs.Resumes.{RestsWork}
use Rattle.tau_desk.specs.Seats.{PlainHead, PlainWorkerSeat, Works}
use Rattle.tau_desk.specs.Shares.{PlainWork}
use Rattle.tau_crew_facts.specs.Ends.{IsLoose}
use Rattle.tau_run.specs.Keeping.{Keeps}
use Rattle.tau_crew.specs.Ending.{HasRunBack, IsWorkerBack}
use Rattle.tau_crew.specs.Working.{IsUnjoined, WorkerEnds}

abbrev pub worker_of : Role → Worker
worker_of r = worker_in_share r.share

-- a worker's seat whose loop has ended, out of memory or not
pub record SeatRan (l : Load) (s s' : PlainWorkerSeat) (short : Bool) : Type 0 where
  pub returned : Result Unit NoMemory
  pub short_is : short ≡ is_err returned
  pub ends : WorkerEnds l s s' returned
  pub works : Works s'

-- each of these workers has its role in the head, and no call in hand
abbrev pub AreReady : PlainHead → ℕ → ℕ → Type 0
AreReady h from to = (w : ℕ) → from ≤ w → w < to → (o : PlainWork) × (slice_get h.workers w ≡ Some (Some o)) × (o.txn.hand ≡ None)

-- a role that is not among them: only the stop may have been raised by it, out of memory
pub record IsStillRole (short : Bool) (r r' : Role) : Type 0 where
  pub share : r'.share ≡ r.share
  pub spare : r'.spare ≡ r.spare
  pub same : short ≡ false → r' ≡ r

-- A worker's role and what it has of its own, before and after, where its loop went to its end: no call is in hand, none was
-- lost, and none is to begin, unless the stop was found raised.
pub record WorkerRan (l : Load) (role role' : Role) (o o' : PlainWork) (found : Bool) : Type 0 where
  pub hand : o'.txn.hand ≡ None
  pub rests : (worker_of role').hand ≡ None
  pub keeps : Keeps (worker_of role) (worker_of role')
  pub raised : role'.raised ≡ role.raised
  pub bare : o.mark ≡ None → o'.mark ≡ None
  pub ended : (found ≡ true) ⊎ ((worker_of role').waiting ≡ [])
  pub resting : o.mark ≡ None → (found ≡ true) ⊎ RestsWork (length l.calls) o'

pub record WorkerIsBack (l : Load) (w : ℕ) (h h' : PlainHead) (short : Bool) : Type 0 where
  pub role : Role
  pub role' : Role
  pub work : PlainWork
  pub work' : PlainWork
  pub was : has w h.me.0 ≡ Some role
  pub is : has w h'.me.0 ≡ Some role'
  pub had : slice_get h.workers w ≡ Some (Some work)
  pub there : slice_get h'.workers w ≡ Some (Some work')
  pub loose : IsLoose (worker_of role').hand
  pub held : held_in work'.txn ≡ []
  pub unjoined : IsUnjoined work'.txn
  pub ran : short ≡ false → WorkerRan l role role' work work' h'.me.0.found

-- the head with the roles of the workers from here to there again; the others' are as they were
pub record WorkersBack (l : Load) (from to : ℕ) (h h' : PlainHead) (short : Bool) : Type 0 where
  pub table : h'.table_id ≡ h.table_id
  pub opened : h'.me.0.opened ≡ h.me.0.opened
  pub managers : h'.managers ≡ h.managers
  pub clerk : h'.clerk ≡ h.clerk
  pub count : length h'.workers ≡ length h.workers
  pub found : h.me.0.found ≡ true → h'.me.0.found ≡ true
  pub roles : (u : ℕ) (r : Role) → (u < from) ⊎ (to ≤ u) → has u h.me.0 ≡ Some r → (r' : Role) × (has u h'.me.0 ≡ Some r') × IsStillRole short r r'
  pub works : (u : ℕ) → (u < from) ⊎ (to ≤ u) → slice_get h'.workers u ≡ slice_get h.workers u
  pub each : (w : ℕ) → from ≤ w → w < to → WorkerIsBack l w h h' short

-- a worker at the beginning of a run: its calls are those that it has to begin, and it has not raised the stop
pub record IsAtStart (l : Load) (h : PlainHead) (w : ℕ) : Type 0 where
  pub role : Role
  pub is : has w h.me.0 ≡ Some role
  pub calls : (k : ℕ) → in_calls k (calls_of l w) ≤ in_worker k (worker_of role)
  pub raised : role.raised ≡ false
  pub unmarked : (work : PlainWork) → slice_get h.workers w ≡ Some (Some work) → work.mark ≡ None

-- all workers of the desk are back, as the ending wants them
pub record AllAreBack (l : Load) (h h' : PlainHead) (short : Bool) : Type 0 where
  pub all : WorkersBack l 0 l.workers h h' short
  pub back : (w : ℕ) → w < l.workers → IsWorkerBack h' w
  pub ran : short ≡ false → (w : ℕ) → w < l.workers → IsAtStart l h w → HasRunBack l h' w

-- the same of a head in its place
abbrev pub AreBackIn : Load → Option PlainHead → Option PlainHead → Bool → Type 0
AreBackIn l None p short = Unit {0}
AreBackIn l (Some h) p short = (h' : PlainHead) × (p ≡ Some h') × AllAreBack l h h' short

-- a head of this desk, with workers that are ready
pub record IsHeadReady (desk : Desk) (h : PlainHead) : Type 0 where
  pub own : h.table_id ≡ desk.table.shared.table_id
  pub opened : h.me.0.opened ≡ Some desk.table.shared.key.value
  pub ready : AreReady h 0 desk.table.shared.key.value.load.workers

-- it stands there
abbrev pub IsPlaced : Desk → Option PlainHead → Type 0
IsPlaced desk None = ⊥
IsPlaced desk (Some h) = IsHeadReady desk h
