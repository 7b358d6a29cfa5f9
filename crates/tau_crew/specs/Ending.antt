-- What the threads of a run give back: a head with every worker's role, the managers' jobs in the order of the streams and the clerk's, their seats still out.
use Rattle.std.specs.Prelude.{ℕ, ◌<◌, ◌≤◌, ◌≡◌, ◌⊎◌, Bool, true, false, Some, None, List, [], length, slice_get, slice_index}
use Rattle.atomic_table.specs.Seated.{TableId}
use Rattle.tau_base.specs.Modes.{format_of}
use Rattle.tau_disk.specs.declared.disk.Disk.{Ghosts}
use Rattle.tau_stream.specs.declared.writer.Writer.{Writer}
use Rattle.tau_stream.specs.Writer.{IsReady}
use Rattle.tau_machine.specs.Accounts.{in_calls, in_worker}
use Rattle.tau_machine.specs.Worker.{Worker}
use Rattle.tau_txn.specs.Txn.{has_joined, held_in}
use Rattle.tau_core.specs.Opens.{calls_of}
use Rattle.tau_core.specs.State.{Plain}
use Rattle.tau_core.specs.declared.state.Load.{Load}
use Rattle.tau_rule.specs.Heads.{role_or}
use Rattle.tau_rule.specs.Role.{Role}
use Rattle.tau_rule.specs.Rule.{has}
use Rattle.tau_rule.specs.Steps.{worker_in_share}
use Rattle.tau_desk.specs.Resumes.{RestsWork}
use Rattle.tau_desk.specs.Seats.{PlainHead}
use Rattle.tau_desk.specs.Shares.{PlainWork}
use Rattle.tau_crew_facts.specs.Ends.{IsLoose}
use Rattle.tau_crew.specs.declared.clerk.ClerkJob.{ClerkJob}
use Rattle.tau_crew.specs.declared.manager.ManagerJob.{ManagerJob}
use Rattle.tau_crew.specs.Clerking.{IsToldSoFar, Tells}
use Rattle.tau_crew.specs.ClerkJobs.{IsClerkJob}
use Rattle.tau_crew.specs.Jobs.{IsManagerJob}

-- the role that the head has of an actor, and the worker that it is
abbrev pub role_back : PlainHead → ℕ → Role
role_back h u = role_or (has u h.me.0)

abbrev pub worker_back : PlainHead → ℕ → Worker
worker_back h w = worker_in_share (role_back h w).share

-- The head has the role of this worker: a call in hand has not joined the committed ones and holds no key.
pub record IsWorkerBack (h : PlainHead) (w : ℕ) : Type 0 where
  pub work : PlainWork
  pub there : slice_get h.workers w ≡ Some (Some work)
  pub loose : IsLoose (worker_back h w).hand
  pub held : held_in work.txn ≡ []
  pub unjoined : has_joined work.txn ≡ false

-- And memory was there: no call is in hand, and none of its calls was lost. It has none to begin, unless the stop was found raised, and has not raised it.
pub record HasRunBack (l : Load) (h : PlainHead) (w : ℕ) : Type 0 where
  pub rests : (worker_back h w).hand ≡ None
  pub kept : (k : ℕ) → in_calls k (calls_of l w) ≤ in_worker k (worker_back h w)
  pub raised : (role_back h w).raised ≡ false
  pub ended : (h.me.0.found ≡ true) ⊎ ((worker_back h w).waiting ≡ [])
  pub resting : (work : PlainWork) → slice_get h.workers w ≡ Some (Some work) → (h.me.0.found ≡ true) ⊎ RestsWork (length l.calls) work

-- the head of this table, for a desk that was opened with the core `first`
pub record IsHeadBack (first : Plain) (table : TableId) (h : PlainHead) : Type 0 where
  pub own : h.table_id ≡ table
  pub opened : h.me.0.opened ≡ Some first
  pub workers : (w : ℕ) → w < first.load.workers → IsWorkerBack h w

pub record IsClerkBack (first : Plain) (table : TableId) (job : ClerkJob) : Type 0 where
  pub own : job.seat.table_id ≡ table
  pub opened : job.seat.me.0.opened ≡ Some first
  pub clerk : IsClerkJob job
  pub tells : Tells first.load job.seat job.told

module _ {D : Type 0} {G : Ghosts D} (first : Plain) (table : TableId) (bases : ℕ → List ℕ) where
  -- the manager of stream j, which had these bytes, and whose writer was w at the entry
  pub record IsManagerBack (j : ℕ) (w : Writer D G) (job : ManagerJob D G) : Type 0 where
    pub own : job.seat.table_id ≡ table
    pub opened : job.seat.me.0.opened ≡ Some first
    pub at : job.seat.stream ≡ j
    pub stream : job.stream ≡ j
    pub ready : G.tells → IsReady (format_of first.load.mode) first.load.streams j w (bases j)
    pub manager : IsManagerJob (format_of first.load.mode) first.load.streams j (bases j) w job

  -- one of each stream, in their order
  pub record AreManagersBack (ws : List (Writer D G)) (jobs : List (ManagerJob D G)) : Type 0 where
    pub count : length jobs ≡ first.load.streams
    pub writers : length ws ≡ first.load.streams
    pub long : (j : ℕ) → j < first.load.streams → length (bases j) ≡ slice_index first.load.opening.ends j
    pub each : (j : ℕ) (w : Writer D G) (job : ManagerJob D G) → slice_get ws j ≡ Some w → slice_get jobs j ≡ Some job → IsManagerBack j w job

-- All together. The sink held `held` at the entry and holds `held'` now, and `sink_rose` is that its faults have risen since. Where no
-- worker was out of memory each of them has run to its end; whether a manager or the clerk was, its job says.
pub record IsBack {D : Type 0} {G : Ghosts D} (first : Plain) (table : TableId) (bases : ℕ → List ℕ) (ws : List (Writer D G)) (hears : Type 0) (held held' : List ℕ) (sink_rose : Type 0) (h : PlainHead) (jobs : List (ManagerJob D G)) (telling : ClerkJob) (short : Bool) : Type 0 where
  pub head : IsHeadBack first table h
  pub managers : AreManagersBack first table bases ws jobs
  pub clerk : IsClerkBack first table telling
  pub heard : hears → IsToldSoFar held telling.told held'
  pub sink : telling.told.sink_failed ≡ true → sink_rose
  pub run : short ≡ false → (w : ℕ) → w < first.load.workers → HasRunBack first.load h w
