-- A run by turns on its way: what each step leaves of streams and writers.
use Rattle.std.specs.Prelude.{ℕ, ◌+◌, ◌<◌, ◌≤◌, ◌≡◌, ◌++◌, Bool, true, false, Option, List, length, take, slice_get, slice_index, Some, None}
use Rattle.tau_base.specs.Modes.{format_of}
use Rattle.tau_block.specs.Image.{HasContent}
use Rattle.tau_disk.specs.Disk.{Passes, Rose}
use Rattle.tau_disk.specs.Used.{GoesOn, IsStopped}
use Rattle.tau_disk.specs.declared.disk.Disk.{Ghosts}
use Rattle.tau_stream.specs.declared.writer.Writer.{Writer}
use Rattle.tau_stream.specs.Writer.{disk_of, has_failed}
use Rattle.tau_model.specs.History.{Act}
use Rattle.tau_machine.specs.Hands.{Txn}
use Rattle.tau_machine.specs.State.{Item, Core}
use Rattle.tau_machine.specs.Events.{Event}
use Rattle.tau_core.specs.declared.state.Load.{Load}
use Rattle.tau_core.specs.State.{Plain}
use Rattle.tau_core.specs.View.{Hidden, core_of}
use Rattle.tau_core.specs.Stands.{Stands}
use Rattle.tau_run.specs.StopsLeave.{HasFront, HasSomeFront, NamesLowest, stops_in}
use Rattle.tau_run.specs.Turns.{Progress}
use Rattle.tau_run.specs.Heard.{Heard}
use Rattle.tau_step.specs.Counts.{CountsTo, flushed_in}
use Rattle.tau_step.specs.Keeping.{IsKept}
use Rattle.tau_step.specs.Progressed.{progress}

-- items and anchors of each stream are those of before and more
pub record Grows (s s' : Core) : Type 0 where
  pub moved : (j : ℕ) → (m : List Item) × ((s'.streams j).moved ≡ (s.streams j).moved ++ m)
  pub anchors : (j : ℕ) → (m : List (List ℕ)) × ((s'.streams j).anchors ≡ (s.streams j).anchors ++ m)

-- what was gathered and persisted of the stream, and whether it is stopped, is as it was
pub record SameAt (i : ℕ) (s s' : Core) : Type 0 where
  pub moved : (s'.streams i).moved ≡ (s.streams i).moved
  pub stop : (s'.streams i).stop ≡ (s.streams i).stop
  pub gathered : slice_index s'.gathered i ≡ slice_index s.gathered i
  pub plv : slice_index s'.plv i ≡ slice_index s.plv i

-- the flushes are those of before
abbrev pub Silent : Progress → Progress → Type 0
Silent P P' = flushed_in P'.events ≡ flushed_in P.events

-- so it is of all streams, which may grow
pub record Quiet (s s' : Core) : Type 0 where
  pub grown : Grows s s'
  pub same : (i : ℕ) → SameAt i s s'

module _ {D : Type 0} {G : Ghosts D} (j : ℕ) (base : List ℕ) where
  -- Whatever a stop now may leave reaches what is persisted, and no more in one image; the stream is stopped exactly where the disk failed.
  pub record IsLeaving (w : Writer D G) (p : Plain) (h : Hidden) : Type 0 where
    pub present : G.tells → (x : List ℕ) → G.may_leave (disk_of w) x →
        (bytes : List ℕ) × HasFront p.load.streams j base p.load (core_of p h) bytes x × (slice_index p.plv j ≤ length base + length bytes)
    pub reached : G.tells → (y content : List ℕ) × G.may_leave (disk_of w) y × HasContent (format_of p.load.mode) p.load.streams j content y × (length content ≡ slice_index p.plv j)
    pub going : has_failed w ≡ false → ((core_of p h).streams j).stop ≡ None
    pub stopped : has_failed w ≡ true → (at : ℕ) × (((core_of p h).streams j).stop ≡ Some at)

  -- as it is kept from turn to turn, or if it was out of memory
  abbrev pub KeptBy : Bool → Writer D G → Plain → Hidden → Type 0
  KeptBy true w p h = IsKept j base w p h
  KeptBy false w p h = IsLeaving w p h

  -- what became of a writer, where this is the state now
  pub record Since (l : Load) (s : Core) (w w' : Writer D G) : Type 0 where
    pub before : G.tells → Passes G.moment G.may_leave_since (disk_of w) (disk_of w') (HasSomeFront l.streams j base l s)
    pub faults : G.faults (disk_of w) ≤ G.faults (disk_of w')
    pub goes : has_failed w' ≡ false → G.tells → GoesOn G.number G.fails (disk_of w) (disk_of w')
    pub stops : has_failed w ≡ false → has_failed w' ≡ true → Rose (G.faults (disk_of w)) (G.faults (disk_of w')) × IsStopped G.tells G.number G.fails G.short (disk_of w) (disk_of w')
    pub still : has_failed w ≡ true → w' ≡ w

module _ {D : Type 0} {G : Ghosts D} (bases : ℕ → List ℕ) where
  -- each stream has its writer, which is kept
  pub record AreKept (ws : List (Writer D G)) (p : Plain) (h : Hidden) : Type 0 where
    pub count : length ws ≡ p.load.streams
    pub long : (j : ℕ) → j < p.load.streams → length (bases j) ≡ slice_index p.load.opening.ends j
    pub each : (j : ℕ) (w : Writer D G) → slice_get ws j ≡ Some w → IsKept j (bases j) w p h

  -- From a core that stands, with its writers, comes one that stands, with its writers, and R is what happened on the way.
  pub record Went (R : Bool → Load → Progress → Progress → Type 0) (whole : Bool) (p p' : Plain) (ws ws' : List (Writer D G)) (told told' : List (ℕ × List ℕ)) (K : List (Act Txn)) (h : Hidden) (es : List Event) : Type 0 where
    pub hidden : Hidden
    pub order : List (Act Txn)
    pub events : List Event
    pub stands : Stands p' order hidden
    pub load : p'.load ≡ p.load
    pub moved : R whole p.load (progress p h es K told) (progress p' hidden events order told')
    pub grown : Grows (core_of p h) (core_of p' hidden)
    pub count : length ws' ≡ length ws
    pub kept : (j : ℕ) (w' : Writer D G) → slice_get ws' j ≡ Some w' → KeptBy j (bases j) whole w' p' hidden
    pub since : (j : ℕ) (w : Writer D G) → slice_get ws j ≡ Some w → (w' : Writer D G) × (slice_get ws' j ≡ Some w') × Since j (bases j) p.load (core_of p' hidden) w w'
    pub calls : whole ≡ true → (j : ℕ) (w w' : Writer D G) → slice_get ws j ≡ Some w → slice_get ws' j ≡ Some w' → CountsTo p.load j es events w w'

  -- a part, where one call more may have been acknowledged than was told
  pub record WentShort (R : Bool → Load → Progress → Progress → Type 0) (p p' : Plain) (ws ws' : List (Writer D G)) (told : List (ℕ × List ℕ)) (failed failed' : Bool) (hears : Type 0) (held held' : List ℕ) (K : List (Act Txn)) (h : Hidden) (es : List Event) : Type 0 where
    pub told_now : List (ℕ × List ℕ)
    pub went : Went R false p p' ws ws' told told_now K h es
    pub count : ℕ
    pub heard : hears → (from : List ℕ) → Heard from told failed held → Heard from (take count told_now) failed' held'

-- a core stands with which these writers are kept, and this is the lowest stream that is stopped
pub record IsAlong {D : Type 0} {G : Ghosts D} (ws : List (Writer D G)) (p : Plain) (failed : Option ℕ) : Type 0 where
  pub bases : ℕ → List ℕ
  pub order : List (Act Txn)
  pub hidden : Hidden
  pub stands : Stands p order hidden
  pub kept : AreKept bases ws p hidden
  pub lowest : NamesLowest p.load.streams (stops_in (core_of p hidden)) failed
