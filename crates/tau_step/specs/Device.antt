-- The order in which a run calls its disks.
use Rattle.std.specs.Prelude.{ℕ, ◌≡◌, Bool, true, List, [], ◌∷◌, ◌++◌, replicate, Option, None}
use Rattle.std.specs.List.{flat_map}
use Rattle.tau_base.specs.declared.value.LogMode.{LogMode}
use Rattle.tau_machine.specs.Events.{Event}
use Rattle.tau_text.specs.declared.load.Workload.{Workload}
use Rattle.tau_core.specs.declared.state.Load.{Load}
use Rattle.tau_open.specs.Outside.{calls_to_make}
use Rattle.tau_occ.specs.declared.style.Style.TheVariants.{Locking}
use Rattle.tau_run.specs.Run.{Run, below}
use Rattle.tau_run.specs.RunFacts.{by_turns, IsCoreRun}
use Rattle.tau_run.specs.Start.{fresh_start}
use Rattle.tau_run.specs.Turns.{Progress}
use Rattle.tau_step.specs.declared.flushes.Flushes.{Flushes}
use Rattle.tau_step.specs.Counts.{calls_to_flush, flushed_in}

-- what is noted are the flushes of these events, where they are noted
abbrev pub IsNoted : Flushes → List Event → Type 0
IsNoted flushes events = flushes.noted ≡ true → flushes.streams ≡ flushed_in events

-- the relation, and a run of which the flushes were noted has them noted
abbrev pub noting : Flushes → Flushes → (Bool → Load → Progress → Progress → Type 0) → Bool → Load → Progress → Progress → Type 0
noting flushes flushes' R whole l P P' = R whole l P P' × (whole ≡ true → IsNoted flushes P.events → IsNoted flushes' P'.events)

-- one flush of the stream more
abbrev pub NotesFlush : ℕ → Flushes → Flushes → Type 0
NotesFlush j old new = new.noted ≡ true → (old.noted ≡ true) × (new.streams ≡ old.streams ++ j ∷ [])

-- The stream of each disk call of a run by n streams that has these flushes, and in which none stops: each is asked its
-- length, each is made, and then come the flushes.
abbrev pub device_calls : ℕ → List ℕ → List ℕ
device_calls n flushes = below n ++ flat_map (replicate calls_to_make) (below n) ++ flat_map (replicate calls_to_flush) flushes

-- the stream of each flush, in order, of the run by turns on new streams in which none stops
pub record IsFlushOrder (n m : ℕ) (mode : LogMode) (load : Workload) (flushes : List ℕ) : Type 0 where
  pub run : Run
  pub begins : run.start ≡ fresh_start n
  pub core : IsCoreRun (by_turns Locking n m load true) n m mode load (λ j. None) run
  pub flushes_are : flushes ≡ flushed_in core.progress.events

-- the stream of each disk call, in order, of that run
pub record IsDeviceOrder (n m : ℕ) (mode : LogMode) (load : Workload) (order : List ℕ) : Type 0 where
  pub flushes : List ℕ
  pub ordered : IsFlushOrder n m mode load flushes
  pub order_is : order ≡ device_calls n flushes

-- no stream has stopped, and these are the flushes, all of which were noted
abbrev pub IsOfRun : Option ℕ → Flushes → List ℕ → Type 0
IsOfRun failed noted flushes = (failed ≡ None) × (noted.noted ≡ true) × (flushes ≡ noted.streams)
