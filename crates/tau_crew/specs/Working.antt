-- What the loop of a worker keeps, and what it ends with.
use Rattle.std.specs.Prelude.{Bool, ◌≡◌, ◌⊎◌, true, false, length, None, [], OnErr, OnOk, Result}
use Rattle.tau_base.specs.declared.value.NoMemory.{NoMemory}
use Rattle.tau_machine.specs.Worker.{Worker}
use Rattle.tau_txn.specs.Next.{next_action}
use Rattle.tau_txn.specs.Txn.{PlainTxn, has_joined, held_in, leaves_in}
use Rattle.tau_txn.specs.declared.action.Action.TheVariants as action
use Rattle.tau_core.specs.Begins.{number_by}
use Rattle.tau_core.specs.declared.state.Load.{Load}
use Rattle.tau_rule.specs.Steps.{first_role, worker_in}
use Rattle.tau_desk.specs.Resumes.{RestsWork}
use Rattle.tau_desk.specs.Seats.{PlainWorkerSeat}
use Rattle.tau_desk.specs.Works.{IsSameSeat}
use Rattle.tau_crew_facts.specs.Ends.{IsLoose}
use Rattle.tau_run.specs.Keeping.{Keeps, Steady}

-- what the seat knows of its worker, and whether it has raised the stop
abbrev pub worker_at : PlainWorkerSeat → Worker
worker_at s = worker_in s.me.0

abbrev pub has_raised : PlainWorkerSeat → Bool
has_raised s = (first_role s.me.0.roles).1.raised

-- the call in hand is not given up
abbrev pub IsSteady : PlainWorkerSeat → Type 0
IsSteady s = Steady (worker_at s) × (leaves_in s.work.txn ≡ false)

-- without a call in hand nothing is kept of where the worker stood before it
abbrev pub IsBare : PlainWorkerSeat → Type 0
IsBare s = s.work.txn.hand ≡ None → s.work.mark ≡ None

-- The worker went on: it has lost no call, and has not raised the stop.
pub record WorksOn (s s' : PlainWorkerSeat) : Type 0 where
  pub seat : IsSameSeat s s'
  pub raised : has_raised s' ≡ has_raised s
  pub stays : leaves_in s.work.txn ≡ false → leaves_in s'.work.txn ≡ false
  pub bare : IsBare s → IsBare s'
  pub keeps : IsSteady s → Keeps (worker_at s) (worker_at s')

-- the call in hand, if there is one, has not joined the committed ones
pub record IsUnjoined (t : PlainTxn) : Type 0 where
  pub joined : has_joined t ≡ false
  pub posted : next_action t ≡ action.Post → ⊥

-- the worker has no call to begin
abbrev pub HasNone : Load → PlainWorkerSeat → Type 0
HasNone l s = ((worker_at s).waiting ≡ []) × (number_by (length l.calls) s.work.next s.work.again ≡ None)

-- The worker has no call in hand and has lost none. It has none to begin, unless it found the stop raised, and has not raised it.
pub record HasRun (l : Load) (s s' : PlainWorkerSeat) : Type 0 where
  pub hand : s'.work.txn.hand ≡ None
  pub rests : (worker_at s').hand ≡ None
  pub keeps : Keeps (worker_at s) (worker_at s')
  pub raised : has_raised s' ≡ has_raised s
  pub bare : IsBare s → IsBare s'
  pub ended : (s'.me.0.found ≡ true) ⊎ ((worker_at s').waiting ≡ [])
  pub resting : IsBare s → (s'.me.0.found ≡ true) ⊎ RestsWork (length l.calls) s'.work

-- How the loop of a worker ends: a call that is in hand has not joined the committed ones and holds no key; out of memory the
-- stop was raised, else each call was run to its end or left over, or the stop was found raised.
pub record WorkerEnds (l : Load) (s s' : PlainWorkerSeat) (result : Result Unit NoMemory) : Type 0 where
  pub seat : IsSameSeat s s'
  pub loose : IsLoose (worker_at s').hand
  pub held : held_in s'.work.txn ≡ []
  pub unjoined : IsUnjoined s'.work.txn
  pub done : OnOk result (HasRun l s s')
  pub short : OnErr result (has_raised s' ≡ true)
