-- What is found of a pass that has left nothing.
use Rattle.std.specs.Prelude.{ℕ, ◌<◌, ◌≤◌, ◌≡◌, ◌⊎◌, ◌==◌, true, false, Some, List, [], length, slice_get}
use Rattle.std.specs.List.{filter}
use Rattle.atomic_table.specs.Seated.{TableId}
use Rattle.tau_disk.specs.Disk.{Rose}
use Rattle.tau_disk.specs.declared.disk.Disk.{Ghosts}
use Rattle.tau_stream.specs.declared.writer.Writer.{Writer}
use Rattle.tau_stream.specs.Writer.{has_failed}
use Rattle.tau_core.specs.State.{Plain}
use Rattle.tau_core.specs.View.{worker_of}
use Rattle.tau_desk.specs.Asks.{covered_calls}
use Rattle.tau_desk.specs.Manages.{PlacedTo}
use Rattle.tau_desk.specs.Seats.{Manages, PlainHead, PlainManagerSeat}
use Rattle.tau_desk.specs.Shares.{PlainWork}
use Rattle.tau_crew.specs.declared.clerk.ClerkJob.{ClerkJob}
use Rattle.tau_crew.specs.declared.manager.ManagerJob.{ManagerJob}
use Rattle.tau_crew.specs.Clerking.{IsToldSoFar}
use Rattle.tau_crew.specs.Ending.{AreManagersBack, IsClerkBack}

-- the manager has gathered all that was placed in its stream, and no record of its own waits
pub record HasGatheredAll (first : Plain) (h : PlainHead) (s : PlainManagerSeat) : Type 0 where
  pub manages : Manages s
  pub own : s.stock.own.pieces ≡ []
  pub all : PlacedTo first h.me.0 s.stream s.stock.gathered

module _ {D : Type 0} {G : Ghosts D} where
  -- of the first so many managers each whose disk works
  abbrev pub HaveGathered : Plain → PlainHead → List (ManagerJob D G) → ℕ → Type 0
  HaveGathered first h jobs upto = (j : ℕ) (job : ManagerJob D G) → j < upto → slice_get jobs j ≡ Some job → has_failed job.writer ≡ false → HasGatheredAll first h job.seat

  -- Managers and the clerk went on: they are as the ending wants them, and the sink holds what was told. Its faults were counted before and after.
  pub record GoesOn (first : Plain) (table : TableId) (hears : Type 0) (held held' : List ℕ) (faults faults' : ℕ) (jobs jobs' : List (ManagerJob D G)) (job job' : ClerkJob) : Type 0 where
    pub managers : (bases : ℕ → List ℕ) (ws : List (Writer D G)) → AreManagersBack first table bases ws jobs → AreManagersBack first table bases ws jobs'
    pub clerk : IsClerkBack first table job'
    pub heard : hears → (base : List ℕ) → IsToldSoFar base job.told held → IsToldSoFar base job'.told held'
    pub cause : job'.told.sink_failed ≡ true → (job.told.sink_failed ≡ true) ⊎ Rose faults faults'
    pub faults_up : faults ≤ faults'

-- those of the calls that are a worker's, of so many
abbrev pub calls_of : ℕ → ℕ → List (ℕ × List ℕ) → List (ℕ × List ℕ)
calls_of workers w acks = filter (λ (a : ℕ × List ℕ). worker_of workers a.0 == w) acks

-- of the first so many workers as many calls were told as the positions cover
abbrev pub AreTold : ℕ → List ℕ → PlainHead → List (ℕ × List ℕ) → ℕ → Type 0
AreTold workers positions h acks upto = (w : ℕ) (o : PlainWork) → w < upto → slice_get h.workers w ≡ Some (Some o) → covered_calls positions o.committed ≤ length (calls_of workers w acks)
