-- What the functions of a run do to it, to its writers and to its sink.
use Rattle.std.specs.Prelude.{ℕ, ◌-◌, ◌≤◌, ◌≡◌, ◌⊎◌, Bool, true, false, List, length, slice_index}
use Rattle.tau_disk.specs.Disk.{Rose}
use Rattle.tau_disk.specs.declared.disk.Disk.{Ghosts}
use Rattle.tau_stream.specs.declared.writer.Writer.{Writer}
use Rattle.tau_model.specs.History.{Act}
use Rattle.tau_machine.specs.Hands.{Txn}
use Rattle.tau_machine.specs.Worker.{Worker}
use Rattle.tau_machine.specs.Events.{Event}
use Rattle.tau_core.specs.declared.state.Load.{Load}
use Rattle.tau_core.specs.State.{Plain}
use Rattle.tau_core.specs.View.{Hidden, core_of, setting_of, worker_at}
use Rattle.tau_core.specs.Opens.{nothing}
use Rattle.tau_core.specs.Stands.{Stands, Stood}
use Rattle.tau_run.specs.Turns.{Progress}
use Rattle.tau_step.specs.TurnParts.{is_busy}
use Rattle.tau_run.specs.Heard.{Heard}
use Rattle.tau_step.specs.declared.run.Run.{Run}
use Rattle.tau_step.specs.Along.{AreKept, IsAlong, Went, WentShort}
use Rattle.tau_step.specs.Device.{noting}
use Rattle.tau_step.specs.Progressed.{Comes}
use Rattle.tau_step.specs.Remains.{sum_below, worker_left}

-- how much is left of all workers
abbrev pub total_left : Plain → ℕ
total_left p = sum_below (λ w. worker_left p.load.procs (worker_at p w)) p.load.workers

-- the workers are as they were
pub record SameWorkers (p p' : Plain) : Type 0 where
  pub load : p'.load ≡ p.load
  pub workers : ◌≡◌ {A = ℕ → Worker} (λ w. worker_at p' w) (λ w. worker_at p w)

-- how many calls are left over
abbrev pub calls_over : Plain → ℕ
calls_over p = sum_below (λ w. length (worker_at p w).left) p.load.workers

-- no worker has anything to do
abbrev pub rests_in : Plain → Type 0
rests_in p = is_busy (setting_of p.load) p.load.workers p.load.streams (core_of p nothing) ≡ false

-- the run has so many workers and streams as it says, and its writers
pub record IsOn {D : Type 0} {G : Ghosts D} (ws : List (Writer D G)) (run : Run) : Type 0 where
  pub along : IsAlong ws run.core run.failed
  pub workers : run.workers ≡ run.core.load.workers
  pub streams : run.streams ≡ run.core.load.streams

-- workers alone have acted
pub record Works (R : Bool → Load → Progress → Progress → Type 0) (whole : Bool) (old new : Run) : Type 0 where
  pub comes : (K : List (Act Txn)) (h : Hidden) (es : List Event) (told : List (ℕ × List ℕ)) → Stands old.core K h → Comes (R whole) old.core new.core told told K h es
  pub stood : Stood new.core
  pub load : new.core.load ≡ old.core.load
  pub clerk : new.clerk ≡ old.clerk
  pub failed : new.failed ≡ old.failed
  pub workers : new.workers ≡ old.workers
  pub streams : new.streams ≡ old.streams
  pub flushes : new.flushes ≡ old.flushes

module _ {D : Type 0} {G : Ghosts D} where
  -- and managers
  pub record Manages (R : Bool → Load → Progress → Progress → Type 0) (whole : Bool) (old new : Run) (ws ws' : List (Writer D G)) : Type 0 where
    pub went : (bases : ℕ → List ℕ) (K : List (Act Txn)) (h : Hidden) (es : List Event) (told : List (ℕ × List ℕ)) → Stands old.core K h → AreKept bases ws old.core h →
        Went bases (noting old.flushes new.flushes R) whole old.core new.core ws ws' told told K h es
    pub clerk : new.clerk ≡ old.clerk
    pub streams : new.streams ≡ old.streams
    pub on : whole ≡ true → IsOn ws' new

  abbrev pub WentBy : (ℕ → List ℕ) → (Bool → Load → Progress → Progress → Type 0) → Bool → Run → Run → List (Writer D G) → List (Writer D G) → Type 0 → List ℕ → List ℕ → List (Act Txn) → Hidden → List Event → Type 0
  WentBy bases R true old new ws ws' hears held held' K h es = Went bases (noting old.flushes new.flushes R) true old.core new.core ws ws' old.clerk.acks new.clerk.acks K h es
  WentBy bases R false old new ws ws' hears held held' K h es = WentShort bases R old.core new.core ws ws' old.clerk.acks old.clerk.sink_failed new.clerk.sink_failed hears held held' K h es

  -- and the clerk
  pub record Moves (R : Bool → Load → Progress → Progress → Type 0) (whole : Bool) (old new : Run) (ws ws' : List (Writer D G)) (hears : Type 0) (held held' : List ℕ) (faults faults' : ℕ) : Type 0 where
    pub went : (bases : ℕ → List ℕ) (K : List (Act Txn)) (h : Hidden) (es : List Event) → Stands old.core K h → AreKept bases ws old.core h → WentBy bases R whole old new ws ws' hears held held' K h es
    pub heard : whole ≡ true → hears → (from : List ℕ) → Heard from old.clerk.acks old.clerk.sink_failed held → Heard from new.clerk.acks new.clerk.sink_failed held'
    pub rose : new.clerk.sink_failed ≡ true → (old.clerk.sink_failed ≡ true) ⊎ Rose faults faults'
    pub later : faults ≤ faults'
    pub on : whole ≡ true → IsOn ws' new

-- how much a stream has that is not persisted
abbrev pub to_flush : Plain → ℕ → ℕ
to_flush p j = slice_index p.ends j - slice_index p.plv j
