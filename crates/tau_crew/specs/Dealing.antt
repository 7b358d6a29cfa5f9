-- The managers' seats leave the head, each with the writer of its stream.
use Rattle.std.specs.Prelude.{ℕ, ◌<◌, ◌≤◌, ◌≡◌, true, Some, List, [], ◌∷◌, ◌++◌, drop, length, slice_get, slice_index}
use Rattle.atomic_table.specs.Seated.{TableId}
use Rattle.tau_base.specs.Modes.{format_of}
use Rattle.tau_disk.specs.declared.disk.Disk.{Ghosts}
use Rattle.tau_stream.specs.declared.writer.Writer.{Writer}
use Rattle.tau_core.specs.State.{Plain}
use Rattle.tau_core.specs.declared.state.Load.{Load}
use Rattle.tau_run.specs.Writers.{IsNew}
use Rattle.tau_rule.specs.First.{role_at}
use Rattle.tau_rule.specs.Rule.{clerk_role, has, manager_role}
use Rattle.tau_desk.specs.Seats.{PlainHead}
use Rattle.tau_desk.specs.Shares.{PlainStock}
use Rattle.tau_crew.specs.declared.manager.ManagerJob.{ManagerJob}
use Rattle.tau_crew.specs.Jobs.{IsManagerJob}

-- the head has this manager's role, as the opening has it
abbrev pub HasFirst : Plain → ℕ → PlainHead → Type 0
HasFirst first j h = (o : PlainStock) × (slice_get h.managers j ≡ Some (Some o)) × (has (manager_role first.load j) h.me.0 ≡ Some (role_at first (manager_role first.load j)))

-- a head from which the first k managers have left; the clerk has not
pub record IsDealing (first : Plain) (table : TableId) (k : ℕ) (h : PlainHead) : Type 0 where
  pub own : h.table_id ≡ table
  pub opened : h.me.0.opened ≡ Some first
  pub seen : h.seen ≡ first.load.opening.ends
  pub there : (j : ℕ) → k ≤ j → j < first.load.streams → HasFirst first j h
  pub clerk : (h.clerk ≡ true) × (has (clerk_role first.load) h.me.0 ≡ Some (role_at first (clerk_role first.load)))

-- the workers' roles, and what they have of their own, are as they were
pub record KeepsWorkers (l : Load) (h h' : PlainHead) : Type 0 where
  pub works : h'.workers ≡ h.workers
  pub roles : (w : ℕ) → w < l.workers → has w h'.me.0 ≡ has w h.me.0

module _ {D : Type 0} {G : Ghosts D} (first : Plain) (table : TableId) (bases : ℕ → List ℕ) where
  -- the manager of stream j, which has these bytes and this writer, and has done nothing
  pub record IsDealt (j : ℕ) (w : Writer D G) (job : ManagerJob D G) : Type 0 where
    pub own : job.seat.table_id ≡ table
    pub opened : job.seat.me.0.opened ≡ Some first
    pub at : job.seat.stream ≡ j
    pub stream : job.stream ≡ j
    pub manager : IsManagerJob (format_of first.load.mode) first.load.streams j (bases j) w job

  -- the first k managers
  pub record AreDealt (ws : List (Writer D G)) (k : ℕ) (jobs : List (ManagerJob D G)) : Type 0 where
    pub count : length jobs ≡ k
    pub each : (j : ℕ) (w : Writer D G) (job : ManagerJob D G) → slice_get ws j ≡ Some w → slice_get jobs j ≡ Some job → IsDealt j w job

-- The manager of stream k leaves with the first of the writers: its job comes last.
module _ {D : Type 0} {G : Ghosts D} (first : Plain) (table : TableId) (k : ℕ) (left left' : List (Writer D G)) (jobs jobs' : List (ManagerJob D G)) where
  pub record DealsOne : Type 0 where
    pub writer : Writer D G
    pub job : ManagerJob D G
    pub is : slice_get left 0 ≡ Some writer
    pub rest : left' ≡ drop 1 left
    pub jobs_are : jobs' ≡ jobs ++ job ∷ []
    pub dealt : (bases : ℕ → List ℕ) → IsNew (format_of first.load.mode) first.load.streams k (bases k) writer → length (bases k) ≡ slice_index first.load.opening.ends k → IsDealt first table bases k writer job
