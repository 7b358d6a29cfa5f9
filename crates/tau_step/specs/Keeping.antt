-- The writers of a run beside its core.
use Rattle.std.specs.Prelude.{ℕ, ◌+◌, ◌≤◌, ◌<◌, ◌≡◌, ◌⊎◌, true, false, Some, None, List, [], ◌++◌, length, slice_get, slice_index, Result, Ok, Err}
use Rattle.tau_base.specs.declared.value.NoMemory.{NoMemory}
use Rattle.tau_base.specs.Modes.{format_of}
use Rattle.tau_block.specs.Image.{HasContent}
use Rattle.tau_disk.specs.Disk.{Passes, Rose}
use Rattle.tau_disk.specs.Used.{GoesOn, IsStopped}
use Rattle.tau_disk.specs.declared.disk.Disk.{Ghosts}
use Rattle.tau_stream.specs.declared.writer.Writer.{Writer}
use Rattle.tau_stream.specs.Writer.{disk_of, durable_of, gathered_of, left_of, has_failed, IsReady}
use Rattle.tau_model.specs.History.{Act}
use Rattle.tau_machine.specs.Hands.{Txn}
use Rattle.tau_machine.specs.State.{Item}
use Rattle.tau_machine.specs.Events.{Event}
use Rattle.tau_core.specs.State.{Plain}
use Rattle.tau_core.specs.View.{Hidden, setting_of, stop_in, core_of}
use Rattle.tau_core.specs.Stands.{Stands, anchors_at}
use Rattle.tau_core.specs.Pieces.{Spelled}
use Rattle.tau_run.specs.Turns.{Flushed}
use Rattle.tau_step.specs.TurnParts.{Managed, ManagedPart}
use Rattle.tau_run.specs.StopsLeave.{HasFront, HasSomeFront}
use Rattle.tau_step.specs.declared.manager.Managing.{Managing}
use Rattle.tau_step.specs.declared.manager.Managing.TheVariants as did
use Rattle.tau_step.specs.Counts.{HasFlushed, MayHalve, flushes_by}
use Rattle.tau_step.specs.Progressed.{progress}

module _ {D : Type 0} {G : Ghosts D} (j : ℕ) (catalogue : List ℕ) where
  -- the disk has not failed: what was gathered of the stream was handed out, and is durable
  pub record IsCurrent (w : Writer D G) (p : Plain) (h : Hidden) : Type 0 where
    pub works : has_failed w ≡ false
    pub going : stop_in (slice_get p.streams j) ≡ None
    pub gathered : slice_index p.gathered j ≡ slice_index p.plv j
    pub durable : durable_of w ≡ slice_index p.plv j
    pub left : left_of w ≡ []
    pub spelled : Spelled p.load (anchors_at p) (h.moved j) (h.taken j)
    pub ready : G.tells → IsReady (format_of p.load.mode) p.load.streams j w (catalogue ++ h.taken j)

  -- the disk failed: what a stop now may leave reaches what is persisted, and no more in one of its images
  pub record IsBroken (w : Writer D G) (p : Plain) (h : Hidden) : Type 0 where
    pub fails : has_failed w ≡ true
    pub at : ℕ
    pub stop : stop_in (slice_get p.streams j) ≡ Some at
    pub durable : durable_of w ≡ slice_index p.plv j
    pub gathered : gathered_of w ≡ slice_index p.gathered j
    pub present : G.tells → (x : List ℕ) → G.may_leave (disk_of w) x →
        (bytes : List ℕ) × HasFront p.load.streams j catalogue p.load (core_of p h) bytes x × (slice_index p.plv j ≤ length catalogue + length bytes)
    pub reached : G.tells → (y content : List ℕ) × G.may_leave (disk_of w) y × HasContent (format_of p.load.mode) p.load.streams j content y × (length content ≡ slice_index p.plv j)

  -- after a Gather, if the stream is gathered up to there: what was gathered before was handed out, and is durable
  pub record IsFilled (upto : ℕ) (w : Writer D G) (p : Plain) (h : Hidden) : Type 0 where
    pub works : has_failed w ≡ false
    pub going : stop_in (slice_get p.streams j) ≡ None
    pub gathered : upto ≡ slice_index p.gathered j
    pub durable : durable_of w ≡ slice_index p.plv j
    pub left : left_of w ≡ []
    pub before : List Item
    pub others : List Item
    pub is : h.moved j ≡ before ++ others
    pub spelled : Spelled p.load (anchors_at p) before (h.taken j)
    pub long : slice_index p.load.opening.ends j + length (h.taken j) ≡ slice_index p.plv j
    pub ready : G.tells → IsReady (format_of p.load.mode) p.load.streams j w (catalogue ++ h.taken j)

  -- it was handed out to the writer
  pub record IsLoaded (upto : ℕ) (w : Writer D G) (p : Plain) (h : Hidden) : Type 0 where
    pub works : has_failed w ≡ false
    pub going : stop_in (slice_get p.streams j) ≡ None
    pub gathered : upto ≡ slice_index p.gathered j
    pub durable : durable_of w ≡ slice_index p.plv j
    pub first : List ℕ
    pub is : h.taken j ≡ first ++ left_of w
    pub before : List Item
    pub others : List Item
    pub moved : h.moved j ≡ before ++ others
    pub front : Spelled p.load (anchors_at p) before first
    pub spelled : Spelled p.load (anchors_at p) (h.moved j) (h.taken j)
    pub long : slice_index p.load.opening.ends j + length first ≡ slice_index p.plv j
    pub count : slice_index p.plv j + length (left_of w) ≡ upto
    pub ready : G.tells → IsReady (format_of p.load.mode) p.load.streams j w (catalogue ++ first)

  abbrev pub IsKept : Writer D G → Plain → Hidden → Type 0
  IsKept w p h = IsCurrent w p h ⊎ IsBroken w p h

  module _ (w w' : Writer D G) (p p' : Plain) (told : List (ℕ × List ℕ)) (K : List (Act Txn)) (h : Hidden) (es : List Event) where
    -- the turn of the manager
    pub record ManagerTurns (a : Managing) : Type 0 where
      pub hidden : Hidden
      pub order : List (Act Txn)
      pub events : List Event
      pub stands : Stands p' order hidden
      pub load : p'.load ≡ p.load
      pub taken : (i : ℕ) → (i ≡ j → ⊥) → hidden.taken i ≡ h.taken i
      pub moved : Managed (setting_of p.load) p.load.workers p.load.streams j (progress p h es K told) (progress p' hidden events order told)
      pub kept : IsKept w' p' hidden
      pub passes : G.tells → Passes G.moment G.may_leave_since (disk_of w) (disk_of w') (HasSomeFront p.load.streams j catalogue p.load (core_of p' hidden))
      pub faults : G.faults (disk_of w) ≤ G.faults (disk_of w')
      pub flushed : a ≡ did.Flushed → (has_failed w ≡ false) × (has_failed w' ≡ false) × (slice_index p.plv j < slice_index p'.plv j)
      pub failed : a ≡ did.Failed → (has_failed w ≡ false) × (has_failed w' ≡ true) × Rose (G.faults (disk_of w)) (G.faults (disk_of w'))
      pub idle : a ≡ did.Idle → (has_failed w' ≡ has_failed w) × (slice_index p'.plv j ≡ slice_index p.plv j)
      pub goes : has_failed w' ≡ false → G.tells → GoesOn G.number G.fails (disk_of w) (disk_of w')
      pub stops : has_failed w ≡ false → has_failed w' ≡ true → IsStopped G.tells G.number G.fails G.short (disk_of w) (disk_of w')
      pub still : has_failed w ≡ true → w' ≡ w
      pub calls : G.tells → HasFlushed G (flushes_by a) (has_failed w) (has_failed w') (disk_of w) (disk_of w')
      pub half : G.tells → MayHalve p.load j (flushes_by a) (has_failed w) (disk_of w) w'

    -- out of memory after the gathering: the disk is as it was
    pub record ManagerStops : Type 0 where
      pub hidden : Hidden
      pub order : List (Act Txn)
      pub events : List Event
      pub stands : Stands p' order hidden
      pub load : p'.load ≡ p.load
      pub moved : ManagedPart (setting_of p.load) p.load.workers p.load.streams false j (progress p h es K told) (progress p' hidden events order told)
      pub worked : has_failed w ≡ false
      pub disk : disk_of w' ≡ disk_of w
      pub works : has_failed w' ≡ has_failed w
      pub present : has_failed w ≡ false → G.tells → (x : List ℕ) → G.may_leave (disk_of w) x →
          (bytes : List ℕ) × HasFront p.load.streams j catalogue p.load (core_of p' hidden) bytes x × (slice_index p'.plv j ≡ length catalogue + length bytes)

    -- the flush of the turn
    pub record FlushTurns (a : Managing) : Type 0 where
      pub hidden : Hidden
      pub order : List (Act Txn)
      pub events : List Event
      pub stands : Stands p' order hidden
      pub load : p'.load ≡ p.load
      pub taken : hidden.taken ≡ h.taken
      pub moved : Flushed (setting_of p.load) p.load.workers p.load.streams j (progress p h es K told) (progress p' hidden events order told)
      pub kept : IsKept w' p' hidden
      pub passes : G.tells → Passes G.moment G.may_leave_since (disk_of w) (disk_of w') (HasSomeFront p.load.streams j catalogue p.load (core_of p' hidden))
      pub faults : G.faults (disk_of w) ≤ G.faults (disk_of w')
      pub flushed : a ≡ did.Flushed → (has_failed w' ≡ false) × (slice_index p.plv j < slice_index p'.plv j)
      pub failed : a ≡ did.Failed → (has_failed w' ≡ true) × Rose (G.faults (disk_of w)) (G.faults (disk_of w'))
      pub idle : a ≡ did.Idle → (has_failed w' ≡ false) × (slice_index p'.plv j ≡ slice_index p.plv j)
      pub goes : has_failed w' ≡ false → G.tells → GoesOn G.number G.fails (disk_of w) (disk_of w')
      pub stops : has_failed w' ≡ true → IsStopped G.tells G.number G.fails G.short (disk_of w) (disk_of w')
      pub calls : G.tells → HasFlushed G (flushes_by a) false (has_failed w') (disk_of w) (disk_of w')
      pub half : G.tells → MayHalve p.load j (flushes_by a) false (disk_of w) w'

    -- the turn after its Gather
    pub record GatheredTurns (a : Managing) : Type 0 where
      pub hidden : Hidden
      pub order : List (Act Txn)
      pub events : List Event
      pub stands : Stands p' order hidden
      pub load : p'.load ≡ p.load
      pub taken : (i : ℕ) → (i ≡ j → ⊥) → hidden.taken i ≡ h.taken i
      pub moved : Flushed (setting_of p.load) p.load.workers p.load.streams j (progress p h es K told) (progress p' hidden events order told)
      pub kept : IsKept w' p' hidden
      pub passes : G.tells → Passes G.moment G.may_leave_since (disk_of w) (disk_of w') (HasSomeFront p.load.streams j catalogue p.load (core_of p' hidden))
      pub faults : G.faults (disk_of w) ≤ G.faults (disk_of w')
      pub flushed : a ≡ did.Flushed → (has_failed w' ≡ false) × (slice_index p.plv j < slice_index p'.plv j)
      pub failed : a ≡ did.Failed → (has_failed w' ≡ true) × Rose (G.faults (disk_of w)) (G.faults (disk_of w'))
      pub idle : a ≡ did.Idle → (has_failed w' ≡ false) × (slice_index p'.plv j ≡ slice_index p.plv j)
      pub goes : has_failed w' ≡ false → G.tells → GoesOn G.number G.fails (disk_of w) (disk_of w')
      pub stops : has_failed w' ≡ true → IsStopped G.tells G.number G.fails G.short (disk_of w) (disk_of w')
      pub calls : G.tells → HasFlushed G (flushes_by a) false (has_failed w') (disk_of w) (disk_of w')
      pub half : G.tells → MayHalve p.load j (flushes_by a) false (disk_of w) w'

    -- out of memory: nothing happened, and the disk is as it was
    pub record GatheredStops : Type 0 where
      pub hidden : Hidden
      pub same : core_of p' hidden ≡ core_of p h
      pub stands : Stands p' K hidden
      pub load : p'.load ≡ p.load
      pub disk : disk_of w' ≡ disk_of w
      pub works : has_failed w' ≡ has_failed w

    abbrev pub GatheredTurned : Result Managing NoMemory → Type 0
    GatheredTurned (Ok a) = GatheredTurns a
    GatheredTurned (Err e) = GatheredStops

    abbrev pub ManagerTurned : Result Managing NoMemory → Type 0
    ManagerTurned (Ok a) = ManagerTurns a
    ManagerTurned (Err e) = ManagerStops

module _ {D : Type 0} {G : Ghosts D} (j : ℕ) (catalogue : List ℕ) (upto : ℕ) (w' : Writer D G) (p p' : Plain) (K : List (Act Txn)) (h : Hidden) where
  -- nothing happened but that bytes were handed out, to the writer, unless it was out of memory
  pub record Handed : Type 0 where
    pub hidden : Hidden
    pub same : core_of p' hidden ≡ core_of p h
    pub stands : Stands p' K hidden
    pub load : p'.load ≡ p.load
    pub taken : (i : ℕ) → (i ≡ j → ⊥) → hidden.taken i ≡ h.taken i

  abbrev pub HandedOver : {A : Type 0} → Result A NoMemory → Type 0
  HandedOver (Ok a) = (x : Handed) × IsLoaded j catalogue upto w' p' x.hidden
  HandedOver (Err e) = Handed

-- a core stands with which this writer can flush
abbrev pub CanFlush : {D : Type 0} {G : Ghosts D} → ℕ → Writer D G → Plain → ℕ → Type 0
CanFlush j w p upto = (catalogue : List ℕ) × (K : List (Act Txn)) × (h : Hidden) × Stands p K h × (length catalogue ≡ slice_index p.load.opening.ends j) × IsFilled j catalogue upto w p h

-- a core stands with which this writer is kept
abbrev pub IsHeld : {D : Type 0} {G : Ghosts D} → ℕ → Writer D G → Plain → Type 0
IsHeld j w p = (catalogue : List ℕ) × (K : List (Act Txn)) × (h : Hidden) × Stands p K h × (length catalogue ≡ slice_index p.load.opening.ends j) × IsKept j catalogue w p h
