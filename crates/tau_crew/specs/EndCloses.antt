-- What the head has before the desk closes: every role, of the managers as their seats had them, and the sight of what is durable.
use Rattle.std.specs.Prelude.{ℕ, ◌≡◌, true, List}
use Rattle.atomic_table.specs.Seated.{TableId}
use Rattle.tau_disk.specs.declared.disk.Disk.{Ghosts}
use Rattle.tau_stream.specs.declared.writer.Writer.{Writer}
use Rattle.std.specs.Prelude.{map}
use Rattle.tau_base.specs.Vectors.{AtMost}
use Rattle.tau_machine.specs.State.{Core}
use Rattle.tau_core.specs.Parts.{all_idle}
use Rattle.tau_core.specs.Stands.{Stands}
use Rattle.tau_core.specs.View.{Hidden, core_of}
use Rattle.tau_occ.specs.declared.style.Style.{Style}
use Rattle.tau_crew_facts.specs.Ends.{IsThreadEnd}
use Rattle.tau_crew.specs.Clerking.{all_told}
use Rattle.tau_core.specs.State.{Plain}
use Rattle.tau_desk.specs.Seats.{PlainHead}
use Rattle.tau_crew.specs.declared.clerk.ClerkJob.{ClerkJob}
use Rattle.tau_crew.specs.declared.manager.ManagerJob.{ManagerJob}
use Rattle.tau_crew.specs.Ending.{AreManagersBack, IsClerkBack, IsHeadBack}
use Rattle.tau_crew.specs.EndJoins.{HasClerkOf, HasManagers, SeesDurable, writer_in}

pub record IsAllBack {D : Type 0} {G : Ghosts D} (first : Plain) (table : TableId) (bases : ℕ → List ℕ) (ws : List (Writer D G)) (h : PlainHead) (jobs : List (ManagerJob D G)) (telling : ClerkJob) : Type 0 where
  pub head : IsHeadBack first table h
  pub managers : AreManagersBack first table bases ws jobs
  pub has : HasManagers first h 0 jobs
  pub clerk : IsClerkBack first table telling
  pub has_clerk : HasClerkOf first h telling.seat
  pub clerk_seen : AtMost telling.seat.seen h.seen
  pub there : h.clerk ≡ true
  pub sees : SeesDurable h (map writer_in jobs)

-- The core is that of a state in which the run has ended, where calls in hand are let go.
pub record ClosesRun {D : Type 0} {G : Ghosts D} (first : Plain) (style : Style) (bases : ℕ → List ℕ) (ws ws' : List (Writer D G)) (telling : ClerkJob) (result : Plain) : Type 0 where
  pub state : Core
  pub came : IsThreadEnd bases first style state ws ws' (all_told telling.told)
  pub load : result.load ≡ first.load
  pub hidden : Hidden
  pub stands : Stands result came.closed.joined hidden
  pub core : core_of result hidden ≡ all_idle state
