-- What the reading of the streams and of the slots gives, what is made of that, and what both make of their disks. The disks of
-- the streams are the first n of those before the slots.
use Rattle.std.specs.Prelude.{ℕ, ◌+◌, ◌<◌, ◌≤◌, ◌≡◌, ◌⊎◌, true, List, [], drop, map, length, None, Some, take, slice_get, Result, Ok, Err}
use Rattle.tau_base.specs.declared.limits.TheConstants.{MAX_STREAMS}
use Rattle.tau_disk.specs.declared.disk.Disk.{Ghosts}
use Rattle.tau_disk.specs.Disk.{Only, Passes, Rose}
use Rattle.tau_disk.specs.Plan.{MadeSome}
use Rattle.tau_disk.specs.Stages.{OnlySynced}
use Rattle.tau_disk.specs.Used.{AllCalls, Each, EachUsed, IsClean, IsFirstStopped, OfDisk, OnlyRead, RoseAt}
use Rattle.tau_scan.specs.declared.fault.ScanRefusal.TheVariants as scans
use Rattle.tau_scan.specs.declared.fault.LogFault.{LogFault}
use Rattle.tau_scan.specs.Outside.{AreSettled, AreSynced, StopsSettling, calls_to_read}
use Rattle.tau_scan.specs.Reading.{HasRead, IsLog}
use Rattle.tau_scan.specs.Taken.{taken}
use Rattle.tau_open.specs.declared.refusal.OpenRefusal.{OpenRefusal}
use Rattle.tau_open.specs.declared.refusal.OpenRefusal.TheVariants as opens
use Rattle.tau_begin.specs.Reading.{calls_before_writes}
use Rattle.tau_ckpt.specs.declared.checkpoint.Checkpoint.{Checkpoint}
use Rattle.tau_ckpt.specs.declared.checkpoint.TheConstants.{MAX_NUMBER}
use Rattle.tau_ckpt.specs.declared.slots.NextWrite.{NextWrite}
use Rattle.tau_ckpt.specs.Chosen.{chosen, left_to_redo, next_write}
use Rattle.tau_ckpt.specs.Slot.{AreTables, Holds}
use Rattle.tau_ckpt.specs.Writing.{EmptyIsUnborn, HoldsOldOrNew, IsQuiet, calls_to_write}
use Rattle.tau_run.specs.RunFacts.{WroteFront}
use Rattle.tau_commands.specs.declared.checkpoints.Ready.{Ready}
use Rattle.tau_commands.specs.declared.slots.Found.{Found}
use Rattle.tau_commands.specs.declared.slots.SlotRefusal.{SlotRefusal}
use Rattle.tau_commands.specs.declared.slots.SlotRefusal.TheVariants as refusals
use Rattle.tau_commands.specs.declared.status.Status.{Status}
use Rattle.tau_commands.specs.declared.status.Status.TheVariants as status
use Rattle.tau_commands.specs.Fault.{TellsFault, fault_text, is_refusal}
use Rattle.tau_commands.specs.Outside.{ends_recovery}
use Rattle.tau_commands.specs.Checkpoints.{CheckpointTells, HaveNoOrder, HoldSlots, IsMadeOf, IsTangleOver, RestoreTellsOf, checkpoint_text, has_written}

-- how a call ends whose slots were not read
abbrev pub slot_status : SlotRefusal → Status
slot_status refusals.NoMemory = status.NoMemory
slot_status (refusals.Failed slot) = status.DiskFault (MAX_STREAMS + slot)

-- how a call ends that was refused a length of a stream
abbrev pub asked_status : OpenRefusal → Status
asked_status opens.NoMemory = status.NoMemory
asked_status (opens.Failed j) = status.DiskFault j
asked_status (opens.NotEmpty j long) = status.NoMemory

-- the same of a slot
abbrev pub asked_slot_status : OpenRefusal → Status
asked_slot_status opens.NoMemory = status.NoMemory
asked_slot_status (opens.Failed slot) = status.DiskFault (MAX_STREAMS + slot)
asked_slot_status (opens.NotEmpty slot long) = status.NoMemory

-- ---- what was read

-- this is what a read of these disks gives
pub record IsFound {D : Type 0} (G : Ghosts D) (streams slots : List D) (found : Found) : Type 0 where
  pub read : HasRead G.tells G.seen None streams (Ok found.log)
  pub sound : IsLog found.log
  pub images : List (List ℕ)
  pub as_seen : G.tells → images ≡ map G.seen slots
  pub holds : HoldSlots images found.slots

module _ {D : Type 0} (G : Ghosts D) where
  -- the disk was read whole
  abbrev pub WasReadWhole : D → D → Type 0
  WasReadWhole = AllCalls G.tells G.number G.fails G.short calls_to_read

  -- the disk was asked its length, and with a byte synced and then read whole: a read gives what it gave, and then a stop
  -- leaves nothing else
  pub record WasSettled (d e : D) : Type 0 where
    pub same : G.tells → G.seen e ≡ G.seen d
    pub settled : G.tells → (G.seen d ≡ [] → ⊥) → Only (G.seen e) (G.may_leave e)
    pub plan : G.tells → (k : ℕ) → G.fails e k ≡ G.fails d k
    pub calls : AllCalls G.tells G.number G.fails G.short (calls_before_writes (length (G.seen d))) d e

  -- at most this was done to each disk, and that to each that was read whole
  module _ (Most Whole : D → D → Type 0) (n : ℕ) (front front' slots slots' : List D) where
    abbrev pub AllWhole : Type 0
    AllWhole = EachUsed Whole front front' n × Each Whole slots slots'

    -- the disk of this stream failed
    pub record StreamStops (j : ℕ) : Type 0 where
      pub low : j < n
      pub rose : RoseAt G.faults front front' j
      pub first : G.tells → IsFirstStopped G.tells G.number G.fails G.short front front' j

    -- the disk of a slot failed, and that of no stream
    pub record SlotStops (j : ℕ) : Type 0 where
      pub slot : ℕ
      pub place : j ≡ MAX_STREAMS + slot
      pub clean : EachUsed (IsClean G.tells G.number G.fails) front front' n
      pub rose : RoseAt G.faults slots slots' slot
      pub first : G.tells → IsFirstStopped G.tells G.number G.fails G.short slots slots' slot

    abbrev pub FindsBy : Result Found Status → Type 0
    FindsBy (Ok found) = AllWhole × IsFound G (take n front) slots found
    FindsBy (Err (status.BadLog fault)) = AllWhole × HasRead G.tells G.seen None (take n front) (Err (scans.Bad fault))
    FindsBy (Err (status.DiskFault j)) = StreamStops j ⊎ SlotStops j
    FindsBy (Err status.NoMemory) = Unit {0}
    FindsBy (Err _) = ⊥

    -- what was found, or why nothing
    pub record FindsAll (result : Result Found Status) : Type 0 where
      pub streams : EachUsed Most front front' n
      pub rest : drop n front' ≡ drop n front
      pub slots_at : Each Most slots slots'
      pub by : FindsBy result

  abbrev pub ReadsAll : ℕ → List D → List D → List D → List D → Result Found Status → Type 0
  ReadsAll = FindsAll (OnlyRead G.tells G.seen G.may_leave G.moment G.may_leave_since) WasReadWhole

  abbrev pub SettlesAll : ℕ → List D → List D → List D → List D → Result Found Status → Type 0
  SettlesAll = FindsAll (OnlySynced G) WasSettled

  -- the disks, which have these lengths, were at most synced and read, and what was found, or why nothing
  module _ (n : ℕ) (front : List D) (lengths : List ℕ) (front' slots : List D) (sizes : List ℕ) (slots' : List D) where
    abbrev pub AreBothSettled : Type 0
    AreBothSettled = AreSettled G lengths front front' × AreSettled G sizes slots slots'

    abbrev pub SettledBy : Result Found Status → Type 0
    SettledBy (Ok found) = AreBothSettled × IsFound G (take n front) slots found
    SettledBy (Err (status.BadLog fault)) = AreBothSettled × HasRead G.tells G.seen None (take n front) (Err (scans.Bad fault))
    SettledBy (Err (status.DiskFault j)) = StopsSettling G lengths j front front'
        ⊎ ((slot : ℕ) × (j ≡ MAX_STREAMS + slot) × AreSettled G lengths front front' × StopsSettling G sizes slot slots slots')
    SettledBy (Err status.NoMemory) = Unit {0}
    SettledBy (Err _) = ⊥

    pub record SettlesAsked (result : Result Found Status) : Type 0 where
      pub streams : AreSynced G lengths front front'
      pub rest : drop n front' ≡ drop n front
      pub slots_at : AreSynced G sizes slots slots'
      pub by : SettledBy result

-- ---- what is told of it

-- how a recovery with a checkpoint told of what was found
pub record TellsFound (found : Found) (wrote : List ℕ → Type 0) (rose : Type 0) (answer : Status) : Type 0 where
  pub kind : ends_recovery answer ≡ true
  pub no_disk : (j : ℕ) → answer ≡ status.DiskFault j → ⊥
  pub told : RestoreTellsOf found.log found.slots wrote answer
  pub refusal : is_refusal answer ≡ true → WroteFront wrote rose (fault_text answer)
  pub tangled : (fault : LogFault) → answer ≡ status.BadLog fault → IsTangleOver (left_to_redo found.log (chosen found.log found.slots)) fault × HaveNoOrder (left_to_redo found.log (chosen found.log found.slots))
  pub sink : answer ≡ status.WriteFault → rose

-- ---- what is made of it

-- the checkpoint may be written into its slot
pub record IsWritable (ready : Ready) : Type 0 where
  pub slot : ready.slot ≤ 1
  pub low : 1 ≤ ready.value.number
  pub high : ready.value.number ≤ MAX_NUMBER
  pub tables : AreTables ready.value.rows
  pub text : ready.text.items ≡ checkpoint_text ready.value.number ready.slot (length ready.value.rows)

-- it is made of what was found
pub record IsReadyOf (found : Found) (ready : Ready) : Type 0 where
  pub made : IsMadeOf found.log found.slots ready.slot ready.value
  pub writable : IsWritable ready

-- none is made of it
abbrev pub RefusesToMake : Found → Status → Type 0
RefusesToMake found (status.BadLog fault) = (next_write found.slots ≡ Err fault) ⊎ ((next : NextWrite) × (next_write found.slots ≡ Ok next) × IsTangleOver (taken found.log) fault × HaveNoOrder (taken found.log))
RefusesToMake found status.NoMemory = Unit {0}
RefusesToMake found _ = ⊥

-- ---- what is written

module _ {D : Type 0} (G : Ghosts D) where
  -- nothing is pending on a slot that has a byte
  abbrev pub AreQuiet : List D → Type 0
  AreQuiet slots = (i : ℕ) (d : D) → slice_get slots i ≡ Some d → G.tells → IsQuiet (G.seen d) (G.may_leave d)

  -- the checkpoint was written into the slot, or that failed
  pub record Writes (slot : ℕ) (c : Checkpoint) (d e : D) : Type 0 where
    pub moments : G.tells → EmptyIsUnborn (G.seen d) (G.may_leave d) → Passes G.moment G.may_leave_since d e (HoldsOldOrNew slot (G.seen d) c)
    pub counts : G.faults d ≤ G.faults e

  -- it is there
  pub record HasPut (slot : ℕ) (c : Checkpoint) (d e : D) : Type 0 where
    pub holds : G.tells → Holds slot (G.seen e) c
    pub durable : G.tells → Only (G.seen e) (G.may_leave e)
    pub calls : AllCalls G.tells G.number G.fails G.short (calls_to_write (G.seen d)) d e

  -- the disk failed meanwhile
  pub record FailsToPut (d e : D) : Type 0 where
    pub rose : Rose (G.faults d) (G.faults e)
    pub calls : G.tells → MadeSome (calls_to_write (G.seen d)) (G.number d) (G.number e) (G.fails d) (G.short e)

  pub record PutsInto (ready : Ready) (slots slots' : List D) (wrote : List ℕ → Type 0) (rose : Type 0) (answer : Status) : Type 0 where
    pub kind : ends_recovery answer ≡ true
    pub no_bad : (fault : LogFault) → answer ≡ status.BadLog fault → ⊥
    pub disk : (j : ℕ) → answer ≡ status.DiskFault j → (j ≡ MAX_STREAMS + ready.slot) × OfDisk FailsToPut slots slots' ready.slot × WroteFront wrote rose (fault_text answer)
    pub silent : answer ≡ status.NoMemory → wrote []
    pub sink : answer ≡ status.WriteFault → rose
    pub others : (i : ℕ) → (i ≡ ready.slot → ⊥) → slice_get slots' i ≡ slice_get slots i
    pub here : OfDisk (Writes ready.slot ready.value) slots slots' ready.slot
    pub written : has_written answer ≡ true → OfDisk (HasPut ready.slot ready.value) slots slots' ready.slot × CheckpointTells ready.slot ready.value wrote answer

  -- none is made, which is told, or one is made and written
  abbrev pub MakesAndPuts : Found → List D → List D → (List ℕ → Type 0) → Type 0 → Status → Type 0
  MakesAndPuts found slots slots' wrote rose answer = ((refusal : Status) × RefusesToMake found refusal × TellsFault wrote rose refusal answer × (slots' ≡ slots))
      ⊎ ((ready : Ready) × IsReadyOf found ready × PutsInto ready slots slots' wrote rose answer)
