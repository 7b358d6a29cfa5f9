-- What there is when a run has gone to its end, memory being there.
use Rattle.std.specs.Prelude.{ℕ, ◌<◌, ◌≡◌, ◌⊎◌, true, false, Some, List, [], length, map, slice_get, slice_index_or, None}
use Rattle.tau_disk.specs.declared.disk.Disk.{Ghosts}
use Rattle.tau_stream.specs.declared.writer.Writer.{Writer}
use Rattle.tau_stream.specs.Writer.{durable_of, has_failed}
use Rattle.tau_core.specs.State.{Plain}
use Rattle.tau_occ.specs.declared.style.Style.{Style}
use Rattle.tau_desk.specs.Manages.{acked_in, managed_in}
use Rattle.tau_desk.specs.Resumes.{CanGoOn}
use Rattle.tau_desk.specs.Seats.{PlainHead}
use Rattle.tau_crew_facts.specs.Closing.{ClerkDone, ManagerDone}
use Rattle.tau_run.specs.Keeping.{NoneLost}
use Rattle.tau_run.specs.StopsLeave.{IsOver}
use Rattle.tau_crew_facts.specs.Ends.{AreApart, stopped_by}
use Rattle.tau_crew.specs.declared.clerk.ClerkJob.{ClerkJob}
use Rattle.tau_crew.specs.declared.manager.ManagerJob.{ManagerJob}
use Rattle.tau_crew.specs.Ending.{HasRunBack, worker_back}
use Rattle.tau_crew.specs.EndCloses.{ClosesRun}

module _ {D : Type 0} {G : Ghosts D} where
  abbrev pub durable_in : ManagerJob D G → ℕ
  durable_in job = durable_of job.writer

  -- how far the writers have their streams durable
  abbrev pub durables : List (ManagerJob D G) → List ℕ
  durables jobs = map durable_in jobs

  -- no manager was out of memory
  abbrev pub NoneShort : List (ManagerJob D G) → Type 0
  NoneShort jobs = (j : ℕ) (job : ManagerJob D G) → slice_get jobs j ≡ Some job → job.short ≡ false

  -- Each worker has run to its end; each manager whose disk works has nothing to do; the clerk has acknowledged what is durable; none of them was out of memory; and no call that was left over can go on, unless the stop was found raised.
  pub record IsDone (first : Plain) (h : PlainHead) (jobs : List (ManagerJob D G)) (telling : ClerkJob) : Type 0 where
    pub memory : NoneShort jobs
    pub workers : (w : ℕ) → w < first.load.workers → HasRunBack first.load h w
    pub managers : (j : ℕ) (job : ManagerJob D G) → slice_get jobs j ≡ Some job → has_failed job.writer ≡ false → ManagerDone first.load job.seat.seen (worker_back h) j (managed_in job.seat.me.0)
    pub clerk : (w : ℕ) → w < first.load.workers → ClerkDone (durables jobs) (worker_back h w) (slice_index_or (acked_in telling.seat.me.0) w [])
    pub telling_memory : telling.short ≡ false
    pub left : (h.me.0.found ≡ true) ⊎ CanGoOn (length first.load.calls) h.workers None

  -- The core is that of a state in which the run has ended, and it has gone to its end if all of them say so.
  pub record ClosesDone (first : Plain) (style : Style) (bases : ℕ → List ℕ) (ws ws' : List (Writer D G)) (h : PlainHead) (jobs : List (ManagerJob D G)) (telling : ClerkJob) (result : Plain) : Type 0 where
    pub run : ClosesRun first style bases ws ws' telling result
    pub done : IsDone first h jobs telling → IsOver first.load.streams (stopped_by ws' run.state) × NoneLost (length first.load.calls) run.state
    pub apart : NoneShort jobs → AreApart bases first.load run.state
