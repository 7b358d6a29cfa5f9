-- All that is said of a call of the program.
use Rattle.std.specs.Prelude.{ℕ, ◌+◌, ◌<◌, ◌≤◌, ◌≡◌, ◌⊎◌, Bool, true, false, ◌&&◌, List, [], ◌∷◌, drop, slice_get, Option, None, Some}
use Rattle.tau_base.specs.declared.limits.TheConstants.{MAX_STREAMS, MAX_WORKLOAD}
use Rattle.tau_disk.specs.declared.disk.Disk.{Ghosts}
use Rattle.tau_disk.specs.Disk.{Rose}
use Rattle.tau_disk.specs.declared.memory.MemDisk.{MemDisk}
use Rattle.tau_disk.specs.Used.{EachIn, RoseAt, OnlyRead, AllCalls, IsClean, IsFirstStopped}
use Rattle.tau_model.specs.History.{Member}
use Rattle.tau_words.specs.declared.command.Command.{Command}
use Rattle.tau_words.specs.declared.command.Command.TheVariants.{Run, Recover, Drill, Bench, Checkpoint, Restore, Follow, Inspect, Audit}
use Rattle.tau_scan.specs.declared.fault.LogFault.{LogFault}
use Rattle.tau_scan.specs.Outside.{calls_to_read}
use Rattle.tau_run.specs.RunFacts.{WroteFront}
use Rattle.tau_commands.specs.declared.disks.TheConstants.{DISKS}
use Rattle.tau_commands.specs.declared.status.Status.{Status}
use Rattle.tau_commands.specs.declared.status.Status.TheVariants as status
use Rattle.tau_commands.specs.Fault.{fault_text, is_refusal}
use Rattle.tau_commands.specs.Outside.{Input, Output, Wrote, is_behind_text, is_behind_end, is_behind_reading, is_before_disks}
use Rattle.tau_engine.specs.Kinds.{streams_of, uses_slots, reads_source, writes_at_end, only_reads, tells_before}
use Rattle.tau_commands.specs.Sources.{HasSource, RefusesSource, is_of_source}
use Rattle.tau_engine.specs.Commands.{Of}

-- the command looks at the logs of its streams
abbrev pub finds_log : Option Command → Bool
finds_log None = false
finds_log (Some (Drill n m p ending)) = false
finds_log (Some (Bench start calls n m)) = false
finds_log (Some other) = true

-- the entry of the disks is the slot of a checkpoint
abbrev pub IsSlot : ℕ → Type 0
IsSlot j = (MAX_STREAMS ≤ j) × (j < DISKS)

-- the entries of the disks that the command uses
abbrev pub Uses : Option Command → ℕ → Type 0
Uses command j = (j < streams_of command) ⊎ ((uses_slots command ≡ true) × IsSlot j)

-- a bad log, of which a command tells after what it told before
abbrev pub is_told_late : Option Command → Status → Bool
is_told_late command (status.BadLog fault) = tells_before command
is_told_late command _ = false

module _ {D : Type 0} (G : Ghosts D) (M : Ghosts MemDisk) (s : Input) (o : Output) (old new : List D) (command : Option Command) (answer : Status) where
  abbrev pub OneOf : List Status → Type 0
  OneOf answers = Member answer answers

  abbrev pub wrote : List ℕ → Type 0
  wrote = Wrote o.hears o.held o.held'

  -- the one line of a refusal, or a first part of it if the sink failed
  abbrev pub OneLine : Type 0
  OneLine = WroteFront wrote (Rose o.faults o.faults') (fault_text answer)

  -- Each status has its cause, and none comes where an earlier one applies.
  pub record Causes : Type 0 where
    pub usage : answer ≡ status.Usage → command ≡ None
    pub usage_told : command ≡ None → OneOf (status.Usage ∷ status.NoMemory ∷ [])
    pub read_fault : answer ≡ status.ReadFault → (reads_source command ≡ true) × s.rose
    pub bad_source : is_of_source answer ≡ true → (reads_source command ≡ true) × (s.tells → RefusesSource command s.left answer)
    pub bad_source_told : s.tells → (refusal : Status) → RefusesSource command s.left refusal → OneOf (refusal ∷ status.ReadFault ∷ status.NoMemory ∷ [])
    pub behind_text : is_behind_text answer ≡ true → reads_source command ≡ true → s.tells → HasSource command s.left
    pub disk_fault : (j : ℕ) → answer ≡ status.DiskFault j → Uses command j × RoseAt G.faults old new j
    -- a fault of a disk is the first call that was to fail, of the lowest disk that has one, unless its memory was short
    pub disk_fault_first : (j : ℕ) → answer ≡ status.DiskFault j → G.tells → IsFirstStopped G.tells G.number G.fails G.short old new j
    pub disk_fault_told : answer ≡ status.Ok → EachIn (Uses command) (λ j. IsClean G.tells G.number G.fails) old new
    -- what the fault is stands in what is said of the command
    pub bad_log : (fault : LogFault) → answer ≡ status.BadLog fault → finds_log command ≡ true
    pub write_fault : answer ≡ status.WriteFault → Rose o.faults o.faults'

  -- What is read of the source, and what is written where nothing is reported.
  pub record Written : Type 0 where
    pub source : s.tells → (k : ℕ) × (k ≤ MAX_WORKLOAD + 1) × (s.left' ≡ drop k s.left)
    pub source_end : s.tells → is_behind_end answer ≡ true → reads_source command ≡ true → s.left' ≡ []
    pub source_unread : s.tells → reads_source command ≡ false → s.left' ≡ s.left
    pub refusal : is_refusal answer ≡ true → is_told_late command answer ≡ false → OneLine
    pub disk_line : (j : ℕ) → answer ≡ status.DiskFault j → writes_at_end command ≡ true → OneLine
    pub silent : answer ≡ status.NoMemory → writes_at_end command ≡ true → wrote []
    pub silent_text : answer ≡ status.NoMemory → reads_source command ≡ true → s.tells → (HasSource command s.left → ⊥) → wrote []

  -- What is not touched, and what is at most read.
  pub record Untouched : Type 0 where
    pub rest : (j : ℕ) → (Uses command j → ⊥) → slice_get new j ≡ slice_get old j
    pub before : is_before_disks answer ≡ true → new ≡ old
    pub bad_source : s.tells → (refusal : Status) → RefusesSource command s.left refusal → new ≡ old
    pub read : only_reads command ≡ true → EachIn (Uses command) (λ j. OnlyRead G.tells G.seen G.may_leave G.moment G.may_leave_since) old new
    -- a disk that fails comes before a bad log, and before a sink that fails: each was read whole, and none failed
    pub calls : only_reads command ≡ true → is_behind_reading answer ≡ true → EachIn (Uses command) (λ j. AllCalls G.tells G.number G.fails G.short calls_to_read) old new

  pub record Says : Type 0 where
    pub causes : Causes
    pub written : Written
    pub untouched : Untouched
    -- what is said of this command alone
    pub of : Of G M s o old new answer command
