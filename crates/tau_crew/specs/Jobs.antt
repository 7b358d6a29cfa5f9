-- What the threads of a run keep.
use Rattle.std.specs.Prelude.{ℕ, ◌≡◌, false, List, slice_index}
use Rattle.tau_base.specs.declared.format.Format.{Format}
use Rattle.tau_disk.specs.declared.disk.Disk.{Ghosts}
use Rattle.tau_stream.specs.declared.writer.Writer.{Writer}
use Rattle.tau_stream.specs.Writer.{disk_of, durable_of, has_failed}
use Rattle.tau_crew_facts.specs.Writers.{IsDurableSince}
use Rattle.tau_crew.specs.declared.manager.ManagerJob.{ManagerJob}
use Rattle.tau_crew.specs.Driving.{IsManagerAt}

module _ {D : Type 0} {G : Ghosts D} where
  -- the manager of stream j of n, whose writer was w0 at the entry, at the head of a turn
  abbrev pub IsManagerJob : Format → ℕ → ℕ → List ℕ → Writer D G → ManagerJob D G → Type 0
  IsManagerJob format n j base w0 job = IsManagerAt format n j base w0 job.seat job.writer job.marks.last job.marks.placed job.short

  -- some stream's manager is
  pub record CanManage (job : ManagerJob D G) : Type 0 where
    pub format : Format
    pub n : ℕ
    pub j : ℕ
    pub base : List ℕ
    pub w0 : Writer D G
    pub manager : IsManagerJob format n j base w0 job

  abbrev pub KeepsManager : ManagerJob D G → ManagerJob D G → Type 0
  KeepsManager job job' = (format : Format) (n j : ℕ) (base : List ℕ) (w0 : Writer D G) → IsManagerJob format n j base w0 job → IsManagerJob format n j base w0 job'

  -- it stays at its desk and at its stream
  pub record IsSameManager (job job' : ManagerJob D G) : Type 0 where
    pub table : job'.seat.table_id ≡ job.seat.table_id
    pub opened : job'.seat.me.0.opened ≡ job.seat.me.0.opened
    pub at : job'.seat.stream ≡ job.seat.stream
    pub stream : job'.stream ≡ job.stream

-- if memory was there and its disk works, the head of each turn is as the entry: the present writer may count as that of the entry
abbrev pub TurnsAreEntries : {D : Type 0} → Ghosts D → Type 0
TurnsAreEntries {D} G = (format : Format) (n j : ℕ) (base : List ℕ) (w0 : Writer D G) (job : ManagerJob D G) → IsManagerJob format n j base w0 job → job.short ≡ false → has_failed job.writer ≡ false → IsManagerJob format n j base job.writer job

-- So what is stored stays stored: whatever a manager does from the head of a turn on, of which it keeps what its loop keeps, what was
-- durable then, which is what it had stored, is durable since that moment.
abbrev pub StoredStays : {D : Type 0} → Ghosts D → Type 0
StoredStays {D} G = (format : Format) (n j : ℕ) (base : List ℕ) (w0 : Writer D G) (job job' : ManagerJob D G) → IsManagerJob format n j base w0 job → job.short ≡ false → has_failed job.writer ≡ false → KeepsManager job job' → G.tells →
    (slice_index job.seat.seen j ≡ durable_of job.writer) × IsDurableSince G format n j (disk_of job'.writer) (G.moment (disk_of job.writer)) (durable_of job.writer)
