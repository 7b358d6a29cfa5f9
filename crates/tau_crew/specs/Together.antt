-- Managers and the clerk side by side.
use Rattle.std.specs.Prelude.{ℕ, ◌<◌, ◌≤◌, ◌≡◌, ◌⊎◌, true, List, Some, length, slice_index_or}
use Rattle.tau_disk.specs.Disk.{Rose}
use Rattle.tau_disk.specs.declared.disk.Disk.{Ghosts}
use Rattle.tau_core.specs.declared.state.Load.{Load}
use Rattle.tau_desk.specs.declared.desk.Desk.{Desk}
use Rattle.tau_crew.specs.declared.clerk.ClerkJob.{ClerkJob}
use Rattle.tau_crew.specs.declared.manager.ManagerJob.{ManagerJob}
use Rattle.tau_crew.specs.Clerking.{IsToldSoFar}
use Rattle.tau_crew.specs.ClerkJobs.{ClerkGoes, IsClerkJob}
use Rattle.tau_crew.specs.Jobs.{CanManage, IsSameManager, KeepsManager}

module _ {D : Type 0} {G : Ghosts D} where
  -- a manager's seat at this desk, at the head of a turn
  pub record IsManagerReady (desk : Desk) (job : ManagerJob D G) : Type 0 where
    pub own : job.seat.table_id ≡ desk.table.shared.table_id
    pub opened : job.seat.me.0.opened ≡ Some desk.table.shared.key.value
    pub stream : job.seat.stream ≡ job.stream
    pub there : job.stream < length desk.load.opening.anchors.items
    pub manages : CanManage job

  pub record ManagerWent (job job' : ManagerJob D G) : Type 0 where
    pub keeps : KeepsManager job job'
    pub own : IsSameManager job job'

  -- each of them did
  pub record ManagersWent (jobs jobs' : List (ManagerJob D G)) : Type 0 where
    pub each : (k : ℕ) (d : ManagerJob D G) → k < length jobs → ManagerWent (slice_index_or jobs k d) (slice_index_or jobs' k d)

-- the clerk's seat at this desk, at the head of a pass
pub record IsClerkReady (desk : Desk) (job : ClerkJob) : Type 0 where
  pub own : job.seat.table_id ≡ desk.table.shared.table_id
  pub opened : job.seat.me.0.opened ≡ Some desk.table.shared.key.value
  pub clerk : IsClerkJob job

-- what it has told, and what became of the sink: whether that tells, what it held and holds, and how often it had failed and has
pub record ClerkWent (l : Load) (hears : Type 0) (held held' : List ℕ) (faults faults' : ℕ) (job job' : ClerkJob) : Type 0 where
  pub goes : ClerkGoes l job job'
  pub clerk : IsClerkJob job'
  pub heard : hears → (base : List ℕ) → IsToldSoFar base job.told held → IsToldSoFar base job'.told held'
  pub cause : job'.told.sink_failed ≡ true → (job.told.sink_failed ≡ true) ⊎ Rose faults faults'
  pub faults_up : faults ≤ faults'
