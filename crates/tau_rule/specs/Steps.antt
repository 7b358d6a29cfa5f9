-- What each step tells.
use Rattle.std.specs.Prelude.{ℕ, ◌*◌, ◌<◌, ◌≡◌, ◌≢◌, List, [], ◌∷◌, Option, Some, None, false}
use Rattle.atomic_table.specs.Table.{Me, Step, Allows}
use Rattle.tau_model.specs.History.{Act}
use Rattle.tau_machine.specs.Hands.{Txn}
use Rattle.tau_shard.specs.Shard.{Shard}
use Rattle.tau_machine.specs.Worker.{Worker, begun}
use Rattle.tau_machine.specs.State.{Core}
use Rattle.tau_machine.specs.Events.{Event, Leads, with_worker, with_shard}
use Rattle.tau_shard.specs.Plain.{PlainShard}
use Rattle.tau_shard.specs.Read.{shard_of}
use Rattle.tau_txn.specs.Txn.{PlainTxn, hand_in, worker_of, RunsBy}
use Rattle.tau_core.specs.State.{Plain}
use Rattle.tau_core.specs.View.{setting_of}
use Rattle.tau_core.specs.declared.state.Load.{Load}
use Rattle.tau_rule.specs.Role.{Share, Working, Managing, Clerking, Role}
use Rattle.tau_rule.specs.Knows.{Knows}
use Rattle.tau_occ.specs.declared.style.Style.{Style}
use Rattle.tau_rule.specs.Holders.{BusyHasCause}
use Rattle.tau_rule.specs.Rule.{Now, IsPart, IsRole, IsReached, PersistsNone, Sees, Meets, Rule, has, part_count}
use Rattle.tau_rule.specs.declared.part.Part.{Part}
use Rattle.tau_rule.specs.declared.part.Part.TheVariants as part

abbrev pub Sat : Type 0
Sat = Me (Option Part) Knows

-- the part and the seat's own parts are of one state that events lead to from the opening
pub record Agrees (origin : Plain) (v : Knows) (k : ℕ) (p : Part) : Type 0 where
  pub style : Style
  pub state : Now
  pub meets : Meets origin style state
  pub part : IsPart origin.load k p state
  pub roles : (u : ℕ) (r : Role) → has u v ≡ Some r → IsRole origin.load u r state
  pub seen : Sees origin state v

abbrev pub holding : ℕ → Knows → Part → Knows
holding k v p = record v { hand = Some (k, p) }

-- where the turn was free the seat has the part, and else nothing changed
abbrev pub took : Step (Option Part) → Sat → ℕ → Sat → Type 0
took st m found m' =
    (found ≡ 0 → (k : ℕ) → st.word ≡ 8 * k → (p : Part) × (m' ≡ (holding k m.0 p, (k, Some p) ∷ [])) × ((origin : Plain) → m.0.opened ≡ Some origin → Agrees origin m.0 k p))
    × (found ≢ 0 → m' ≡ m)

-- the part is at home, and the seat knows what was told
abbrev pub gave : Knows → Step (Option Part) → Sat → ℕ → Sat → Type 0
gave v st m found m' = m' ≡ (v, [])

-- the seat knows what was told of the number found
abbrev pub knew : (ℕ → Knows) → Step (Option Part) → Sat → ℕ → Sat → Type 0
knew v st m found m' = m' ≡ (v found, m.1)

-- the seat is this worker's, with no part in hand
pub record IsWorker (origin : Plain) (m : Sat) (w : ℕ) (r : Role) : Type 0 where
  pub opened : m.0.opened ≡ Some origin
  pub roles : m.0.roles ≡ (w, r) ∷ []
  pub idle : m.0.hand ≡ None
  pub none : m.1 ≡ []

-- the shard in a part
abbrev pub shard_in : Part → Option Shard
shard_in (part.Shard b) = Some (shard_of b.value)
shard_in (part.Outbox o p) = None
shard_in (part.Anchor number lv) = None

-- Whatever else the state is, the event leads from a state with this worker and this shard to the one in which they are these;
-- a worker that is Busy by it has a cause.
abbrev pub StepsShard : Plain → Style → Event → ℕ → Worker → Worker → ℕ → Shard → Shard → Type 0
StepsShard origin style e w wk wk' k sh sh' =
    (s : Core) → IsReached origin style s → s.workers w ≡ wk → s.shards k ≡ sh → (new : List (Act Txn)) × Leads (setting_of origin.load) e s (with_shard (with_worker s w wk') k sh') new × BusyHasCause (setting_of origin.load) style e s

-- what a worker's seat knows when its part is at home
abbrev pub handed : Knows → ℕ → Role → Knows
handed v w y = record v { roles = (w, y) ∷ []; hand = None }

abbrev pub working : Role → Worker → Role
working x wk = record x { share = Working wk }

-- the first of the roles, and the worker that it is
abbrev pub first_role : List (ℕ × Role) → ℕ × Role
first_role [] = (0, record { share = Clerking []; raised = false; spare = (0, 0) })
first_role (x ∷ xs) = x

abbrev pub resting : Worker
resting = record { waiting = []; hand = None; left = []; committed = [] }

abbrev pub worker_in_share : Share → Worker
worker_in_share (Working wk) = wk
worker_in_share (Managing g) = resting
worker_in_share (Clerking acked) = resting

abbrev pub worker_in : Knows → Worker
worker_in v = worker_in_share (first_role v.roles).1.share

-- the worker that has this call in hand now, where it began its next call by this step or had begun it before
abbrev pub next_worker : Load → Worker → PlainTxn → Worker
next_worker l wk t = worker_of l.procs (begun l.streams wk) t

-- what a worker's seat knows then, with no part in hand
abbrev pub told : Load → Knows → PlainTxn → Knows
told l v t = handed v (first_role v.roles).0 (working (first_role v.roles).1 (next_worker l (worker_in v) t))

-- the seat is that of worker w, whose call is in hand here, begun or not, and no part is
pub record IsReady (origin : Plain) (w : ℕ) (m : Sat) (t : PlainTxn) : Type 0 where
  pub role : Role
  pub worker : Worker
  pub seat : IsWorker origin m w role
  pub share : role.share ≡ Working worker
  pub there : w < origin.load.workers
  pub number : t.worker ≡ w
  pub width : t.width ≡ origin.load.streams
  pub runs : RunsBy origin.load.procs t
  pub agrees : (begun origin.load.streams worker).hand ≡ hand_in origin.load.procs t

-- the seat has the shard k in hand, and this event of worker w leaves it so, with this call in hand
pub record GivesShard (origin : Plain) (style : Style) (e : Event) (m : Sat) (k : ℕ) (q : PlainShard) (w : ℕ) (t : PlainTxn) : Type 0 where
  pub taken : Part
  pub role : Role
  pub worker : Worker
  pub before : Shard
  pub held : m.0.hand ≡ Some (k, taken)
  pub carried : m.1 ≡ (k, None) ∷ []
  pub roles : m.0.roles ≡ (w, role) ∷ []
  pub share : role.share ≡ Working worker
  pub was : shard_in taken ≡ Some before
  pub there : w < origin.load.workers
  pub steps : StepsShard origin style e w worker (next_worker origin.load worker t) k before (shard_of q)
  pub none : PersistsNone e

-- what a seat knows that has given its part back
abbrev pub idle : Knows → Knows
idle v = record v { hand = None }

-- the seat has the part k in hand, and of every state of which that is the part k this is too
pub record IsBack (origin : Plain) (m : Sat) (k : ℕ) (q : Part) : Type 0 where
  pub taken : Part
  pub number : ℕ
  pub role : Role
  pub held : m.0.hand ≡ Some (k, taken)
  pub carried : m.1 ≡ (k, None) ∷ []
  pub roles : m.0.roles ≡ (number, role) ∷ []
  pub same : (c : Now) → IsPart origin.load k taken c → IsPart origin.load k q c

-- the seat has taken the part k, which agrees with what it knows
abbrev pub Took : Plain → ℕ → Sat → Sat → Type 0
Took origin k m m' = (p : Part) × (m' ≡ (holding k m.0 p, (k, Some p) ∷ [])) × Agrees origin m.0 k p

-- the part k that the seat has in hand may come home as q, and then it knows this
abbrev pub ComesHome : Plain → Style → ℕ → Knows → ℕ → Part → Knows → Type 0
ComesHome origin style id v k q knows = Allows (Rule origin style) (part_count origin.load) id (v, (k, Some q) ∷ []) (8 * k) (λ _. 0) (λ found m. m ≡ (knows, []))
