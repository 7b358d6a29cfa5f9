-- Which turns a recovery follows.
use Rattle.std.specs.Prelude.{ℕ, zero, suc, true, ◌≡◌, ◌-◌, ◌⊎◌, List, [], ◌∷◌, ◌++◌, map, replicate, Option, Some, None, slice_get, slice_set}
use Rattle.tau_base.specs.declared.limits.TheConstants.{MAX_RECOVERY_WORKERS}
use Rattle.tau_base.specs.declared.value.Key.{Key}
use Rattle.tau_base.specs.declared.value.Value.{Value}
use Rattle.tau_base.specs.Database.{Db}
use Rattle.tau_model.specs.Redo.{redo_contents}
use Rattle.tau_model.specs.Store.{database}
use Rattle.tau_model.specs.Tables.{IsTablesOf}
use Rattle.tau_scan.specs.declared.log.Log.{Log}
use Rattle.tau_scan.specs.Taken.{Kept}
use Rattle.tau_pool.specs.declared.item.Job.{Job}
use Rattle.tau_pool.specs.Item.{Item}
use Rattle.tau_pool.specs.Items.{is_left}
use Rattle.tau_pool.specs.Pooled.{Pooled, IsRecovered, IsStarted, IsFinished, NoneReady}
use Rattle.tau_replay.specs.declared.turns.Replay.{Replay}
use Rattle.tau_replay.specs.Course.{Course, whole}
use Rattle.tau_replay.specs.Recovering.{IsHeld}

-- the records with how far each is, what each worker has in flight, and the finished records in their order
pub record Worked : Type 0 where
  pub pools : Pooled
  pub hands : List (Option Job)
  pub order : List Kept

-- before the first turn: nothing is started, and sixteen workers have nothing in flight
pub record IsUnstarted (log : Log) (course : Course) (s : Worked) : Type 0 where
  pub items : s.pools.items ≡ course.items
  pub ends : s.pools.ends ≡ log.elv
  pub recovered : IsRecovered s.pools.ends s.pools.rlv s.pools.items
  pub hands : s.hands ≡ replicate MAX_RECOVERY_WORKERS None
  pub order : s.order ≡ []

-- the worker starts a record that is ready
pub record Starts (s : Worked) (worker : ℕ) (t : Worked) : Type 0 where
  pub job : Job
  pub started : IsStarted s.pools job t.pools
  pub hands : t.hands ≡ slice_set s.hands worker (Some job)
  pub order : t.order ≡ s.order

-- the worker finishes the record that it has in flight
pub record Finishes (log : Log) (s : Worked) (worker : ℕ) (job : Job) (t : Worked) : Type 0 where
  pub kept : Kept
  pub held : IsHeld log job kept
  pub finished : IsFinished s.pools job t.pools
  pub recovered : IsRecovered t.pools.ends t.pools.rlv t.pools.items
  pub hands : t.hands ≡ slice_set s.hands worker None
  pub order : t.order ≡ s.order ++ kept ∷ []

-- A turn of a worker: it finishes what it has in flight; else it starts a record that is ready, or nothing is ready and
-- nothing changes. Of a worker that is none of the sixteen nothing changes.
abbrev pub TurnsBy : Log → Worked → ℕ → Worked → Option (Option Job) → Type 0
TurnsBy log s worker t None = t ≡ s
TurnsBy log s worker t (Some None) = Starts s worker t ⊎ (NoneReady s.pools × (t ≡ s))
TurnsBy log s worker t (Some (Some job)) = Finishes log s worker job t

abbrev pub IsTurn : Log → Worked → ℕ → Worked → Type 0
IsTurn log s worker t = TurnsBy log s worker t (slice_get s.hands worker)

-- the turns of these workers, one after another
abbrev pub Follow : Log → List ℕ → Worked → Worked → Type 0
Follow log [] s t = t ≡ s
Follow log (worker ∷ turns) s t = (m : Worked) × IsTurn log s worker m × Follow log turns m t

-- so many workers from this one on
abbrev pub ascending : ℕ → ℕ → List ℕ
ascending worker zero = []
ascending worker (suc n) = worker ∷ ascending (suc worker) n

-- the sixteen workers from this one on
abbrev pub workers_from : ℕ → List ℕ
workers_from worker = ascending worker (MAX_RECOVERY_WORKERS - worker)

-- so many rounds of all workers
abbrev pub rounds : ℕ → List ℕ
rounds zero = []
rounds (suc n) = rounds n ++ workers_from 0

-- these turns, from the beginning, led to what is started and finished here, and what the finished records did is in the
-- database
pub record HasFollowedOn (log : Log) (course : Course) (turns : List ℕ) (pools : Pooled) (hands : List (Option Job)) (db : Db) : Type 0 where
  pub begun : Worked
  pub unstarted : IsUnstarted log course begun
  pub order : List Kept
  pub steps : Follow log turns begun (record { pools = pools; hands = hands; order = order })
  pub holds : db ≡ redo_contents log.declarations.procs (map (λ (r : Kept). r.content) order) course.base

abbrev pub FollowedOn : Log → Course → List ℕ → Replay → Type 0
FollowedOn log course turns r = HasFollowedOn log course turns r.pools r.hands.items (database r.store)

-- the same through the whole log
abbrev pub HasFollowed : Log → List ℕ → Pooled → List (Option Job) → Db → Type 0
HasFollowed log turns pools hands db = HasFollowedOn log (whole log) turns pools hands db

abbrev pub Followed : Log → List ℕ → Replay → Type 0
Followed log turns r = FollowedOn log (whole log) turns r

-- the rows are those of what the turns of these workers finish, and after them rounds of all until nothing is left
pub record IsRedoneByOn (log : Log) (course : Course) (turns : List ℕ) (rows : List (Key × Value)) : Type 0 where
  pub more : ℕ
  pub begun : Worked
  pub unstarted : IsUnstarted log course begun
  pub over : Worked
  pub steps : Follow log (turns ++ rounds more) begun over
  pub none_left : (i : ℕ) (x : Item) → slice_get over.pools.items i ≡ Some x → is_left x.stage ≡ true → ⊥
  pub tables : IsTablesOf (redo_contents log.declarations.procs (map (λ (r : Kept). r.content) over.order) course.base) rows

-- the same of the whole log
abbrev pub IsRedoneBy : Log → List ℕ → List (Key × Value) → Type 0
IsRedoneBy log turns rows = IsRedoneByOn log (whole log) turns rows
