-- What a checkpoint and a recovery with one tell, and what they make of the disks of the streams and of the slots.
use Rattle.std.specs.Prelude.{ℕ, ◌+◌, ◌<◌, ◌≤◌, ◌≡◌, ◌⊎◌, Bool, true, List, [], ◌∷◌, ◌++◌, codes, length, map, take, drop, slice_get, slice_index_or, Option, None, Ok, Err}
use Rattle.std.specs.Fmt.{decimal}
use Rattle.tau_base.specs.declared.limits.TheConstants.{MAX_STREAMS}
use Rattle.tau_base.specs.declared.value.Key.{Key}
use Rattle.tau_base.specs.declared.value.Value.{Value}
use Rattle.tau_disk.specs.declared.disk.Disk.{Ghosts}
use Rattle.tau_disk.specs.Disk.{Only, Rose}
use Rattle.tau_disk.specs.Stages.{OnlySynced}
use Rattle.tau_disk.specs.Used.{AllCalls, EachIn, IsClean, IsFirstStopped, OfDisk, OnlyRead, RoseAt}
use Rattle.tau_model.specs.History.{Member}
use Rattle.tau_scan.specs.declared.fault.LogCause.TheVariants as cause
use Rattle.tau_scan.specs.declared.fault.LogFault.{LogFault}
use Rattle.tau_scan.specs.declared.log.Log.{Log}
use Rattle.tau_scan.specs.Outside.{calls_to_read}
use Rattle.tau_scan.specs.Reading.{log_of}
use Rattle.tau_scan.specs.Sound.{IsOrderOver}
use Rattle.tau_scan.specs.Taken.{Kept, taken}
use Rattle.tau_replay.specs.Redone.{IsRedone, IsTangledOver}
use Rattle.tau_report.specs.Lines.{line, end_line}
use Rattle.tau_report.specs.Recovery.{recover_text}
use Rattle.tau_begin.specs.Barrier.{IsBarrier}
use Rattle.tau_begin.specs.Reading.{calls_before_writes}
use Rattle.tau_ckpt.specs.declared.checkpoint.Checkpoint.{Checkpoint}
use Rattle.tau_ckpt.specs.declared.slots.NextWrite.{NextWrite}
use Rattle.tau_ckpt.specs.declared.slots.Slots.{Slots}
use Rattle.tau_ckpt.specs.Chosen.{AreHeld, IsRestored, checkpoint_at, chosen, left_to_redo, next_write, number_of}
use Rattle.tau_ckpt.specs.Slot.{Holds}
use Rattle.tau_ckpt.specs.Writing.{EmptyIsUnborn, HoldsOldOrNew, calls_to_write}
use Rattle.tau_run.specs.RunFacts.{WroteFront}
use Rattle.tau_commands.specs.declared.disks.TheConstants.{DISKS}
use Rattle.tau_commands.specs.declared.status.Status.{Status}
use Rattle.tau_commands.specs.declared.status.Status.TheVariants as status
use Rattle.tau_commands.specs.Fault.{fault_text, is_refusal}
use Rattle.tau_commands.specs.Outside.{Output, Wrote, ends_recovery, is_behind_reading}
use Rattle.tau_commands.specs.Recovery.{EndsAsBad, images_of}

-- ---- the disks

-- the entry of the disks is that of one of the first n, which are for streams, or that of a slot
abbrev pub IsUsed : ℕ → ℕ → Type 0
IsUsed n j = (j < n) ⊎ ((MAX_STREAMS ≤ j) × (j < DISKS))

-- the images of the slots, as a read gives them
abbrev pub slots_of : {D : Type 0} → (D → List ℕ) → List D → List (List ℕ)
slots_of seen disks = map seen (drop MAX_STREAMS disks)

-- this is what the images of the two slots hold
abbrev pub HoldSlots : List (List ℕ) → Slots → Type 0
HoldSlots images slots = AreHeld (slice_index_or images 0 []) (slice_index_or images 1 []) slots

-- ---- what is redone

-- redoing these records gets stuck, and the fault tells where
abbrev pub IsTangleOver : List Kept → LogFault → Type 0
IsTangleOver records fault = (at : ℕ) × (fault.cause ≡ cause.Tangled at) × IsTangledOver records fault.stream at

-- no order of these records is orderly
abbrev pub HaveNoOrder : List Kept → Type 0
HaveNoOrder records = (order : List Kept) → IsOrderOver records order → ⊥

-- the answer tells where these records are stuck, unless memory ran out or a disk failed
abbrev pub EndsTangledOver : List Kept → Status → Type 0
EndsTangledOver records status.NoMemory = Unit {0}
EndsTangledOver records (status.DiskFault j) = Unit {0}
EndsTangledOver records (status.BadLog fault) = IsTangleOver records fault
EndsTangledOver records other = ⊥

-- the work was done, unless memory ran out
abbrev pub EndsDone : Status → Type 0
EndsDone answer = Member answer (status.Ok ∷ status.NoMemory ∷ [])

-- ---- recovery with a checkpoint

-- the number of the checkpoint that a log is redone on, 0 if there is none
abbrev pub base_line : Option Checkpoint → List ℕ
base_line base = line (codes "base" ∷ decimal (number_of base) ∷ [])

-- this is the text of what recovery finds in the log with the checkpoint that it takes of the slots
pub record IsRestorationOf (log : Log) (slots : Slots) (text : List ℕ) : Type 0 where
  pub rows : List (Key × Value)
  pub redone : IsRestored log (chosen log slots) rows
  pub text_is : text ≡ base_line (chosen log slots) ++ recover_text log rows

-- what is written of a log and of what the slots hold, by how recovery ended: the text, a first part of it, or nothing
abbrev pub RestoreTellsOf : Log → Slots → (List ℕ → Type 0) → Status → Type 0
RestoreTellsOf log slots wrote status.Ok = (text : List ℕ) × IsRestorationOf log slots text × wrote text
RestoreTellsOf log slots wrote status.WriteFault = (text : List ℕ) × (k : ℕ) × IsRestorationOf log slots text × (k < length text) × wrote (take k text)
RestoreTellsOf log slots wrote status.NoMemory = wrote []
RestoreTellsOf log slots wrote other = Unit {0}

-- what is written of these images of streams and of slots
abbrev pub RestoreTells : List (List ℕ) → List (List ℕ) → (List ℕ → Type 0) → Status → Type 0
RestoreTells images held wrote status.Ok = (log : Log) × (slots : Slots) × (log_of None images ≡ Ok log) × HoldSlots held slots × RestoreTellsOf log slots wrote status.Ok
RestoreTells images held wrote status.WriteFault = (log : Log) × (slots : Slots) × (log_of None images ≡ Ok log) × HoldSlots held slots × RestoreTellsOf log slots wrote status.WriteFault
RestoreTells images held wrote status.NoMemory = wrote []
RestoreTells images held wrote other = Unit {0}

-- recovery with a checkpoint is refused: the images hold no log, or what is left to redo of it is tangled
abbrev pub IsRestoreRefused : List (List ℕ) → List (List ℕ) → LogFault → Type 0
IsRestoreRefused images held fault = (log_of None images ≡ Err fault)
    ⊎ ((log : Log) × (slots : Slots) × (log_of None images ≡ Ok log) × HoldSlots held slots × IsTangleOver (left_to_redo log (chosen log slots)) fault × HaveNoOrder (left_to_redo log (chosen log slots)))

-- Recovery with a checkpoint is a function of what the disks of the streams and of the slots read.
pub record OfRestore {D : Type 0} (G : Ghosts D) (o : Output) (old new : List D) (answer : Status) (n : ℕ) : Type 0 where
  pub restore : G.tells → RestoreTells (images_of G.seen old n) (slots_of G.seen old) (Wrote o.hears o.held o.held') answer
  pub bad_log : (fault : LogFault) → answer ≡ status.BadLog fault → G.tells → IsRestoreRefused (images_of G.seen old n) (slots_of G.seen old) fault
  pub bad_log_told : G.tells → (fault : LogFault) → log_of None (images_of G.seen old n) ≡ Err fault → EndsAsBad fault answer
  pub tangled_told : G.tells → (log : Log) (slots : Slots) → log_of None (images_of G.seen old n) ≡ Ok log → HoldSlots (slots_of G.seen old) slots → HaveNoOrder (left_to_redo log (chosen log slots)) →
      EndsTangledOver (left_to_redo log (chosen log slots)) answer
  pub done : G.tells → (log : Log) (slots : Slots) (order : List Kept) → log_of None (images_of G.seen old n) ≡ Ok log → HoldSlots (slots_of G.seen old) slots → IsOrderOver (left_to_redo log (chosen log slots)) order →
      (Rose o.faults o.faults' → ⊥) → ((j : ℕ) → IsUsed n j → RoseAt G.faults old new j → ⊥) → EndsDone answer

-- ---- a checkpoint

-- what a checkpoint tells: its number, its slot and how many rows it has
abbrev pub checkpoint_text : ℕ → ℕ → ℕ → List ℕ
checkpoint_text number slot rows = line (codes "checkpoint" ∷ decimal number ∷ decimal slot ∷ decimal rows ∷ []) ++ end_line None

-- this checkpoint is made of a log and of what the slots hold, for this slot: its number is the next one, and its rows are
-- those of recovery
pub record IsMadeOf (log : Log) (slots : Slots) (slot : ℕ) (c : Checkpoint) : Type 0 where
  pub next : next_write slots ≡ Ok (record { slot = slot; number = c.number })
  pub redone : IsRedone log c.rows
  pub made : c ≡ checkpoint_at log c.number c.rows

-- the same of images of streams and of slots
pub record IsMade (images held : List (List ℕ)) (slot : ℕ) (c : Checkpoint) : Type 0 where
  pub log : Log
  pub slots : Slots
  pub reads : log_of None images ≡ Ok log
  pub holds : HoldSlots held slots
  pub made : IsMadeOf log slots slot c

-- the text of this checkpoint, by how the call ended
abbrev pub CheckpointTells : ℕ → Checkpoint → (List ℕ → Type 0) → Status → Type 0
CheckpointTells slot c wrote status.Ok = wrote (checkpoint_text c.number slot (length c.rows))
CheckpointTells slot c wrote status.WriteFault = (k : ℕ) × (k < length (checkpoint_text c.number slot (length c.rows))) × wrote (take k (checkpoint_text c.number slot (length c.rows)))
CheckpointTells slot c wrote other = Unit {0}

-- the checkpoint was written, and then its line
abbrev pub has_written : Status → Bool
has_written status.Ok = true
has_written status.WriteFault = true
has_written _ = Bool.false

-- no checkpoint is made of these images: they hold no log, no number is left after that of a slot, or the log is tangled
abbrev pub IsCheckpointRefused : List (List ℕ) → List (List ℕ) → LogFault → Type 0
IsCheckpointRefused images held fault = (log_of None images ≡ Err fault)
    ⊎ ((log : Log) × (slots : Slots) × (log_of None images ≡ Ok log) × HoldSlots held slots
    × ((next_write slots ≡ Err fault) ⊎ ((next : NextWrite) × (next_write slots ≡ Ok next) × IsTangleOver (taken log) fault × HaveNoOrder (taken log))))

module _ {D : Type 0} (G : Ghosts D) where
  -- Since its barrier, or since the entry if it has no byte, a stop leaves of the slot an image that holds none, what it
  -- held, or this checkpoint. Of a slot without a byte this is said if a stop at the entry left at most 17 bytes.
  pub record IsRewritten (slot : ℕ) (c : Checkpoint) (d e : D) : Type 0 where
    pub since : G.tells → EmptyIsUnborn (G.seen d) (G.may_leave d) → (b : ℕ) × IsBarrier G b d e × ((x : List ℕ) → G.may_leave_since e b x → HoldsOldOrNew slot (G.seen d) c x)

  -- the slot holds the checkpoint, and a stop leaves nothing else
  pub record HoldsWritten (slot : ℕ) (c : Checkpoint) (d e : D) : Type 0 where
    pub holds : G.tells → Holds slot (G.seen e) c
    pub durable : G.tells → Only (G.seen e) (G.may_leave e)
    pub calls : AllCalls G.tells G.number G.fails G.short (calls_before_writes (length (G.seen d)) + calls_to_write (G.seen d)) d e

  -- This checkpoint was written into this slot, or that failed. The other disks were at most read and synced.
  pub record IsPut (n : ℕ) (old new : List D) (slot : ℕ) (c : Checkpoint) : Type 0 where
    pub slot_is : slot ≤ 1
    pub made : G.tells → IsMade (images_of G.seen old n) (slots_of G.seen old) slot c
    pub here : OfDisk (IsRewritten slot c) old new (MAX_STREAMS + slot)
    pub others : EachIn (λ j. IsUsed n j × (j ≡ MAX_STREAMS + slot → ⊥)) (λ j. OnlySynced G) old new

  -- the used disks were at most read and synced
  abbrev pub AreUnwritten : ℕ → List D → List D → Type 0
  AreUnwritten n old new = EachIn (IsUsed n) (λ j. OnlySynced G) old new

-- A checkpoint is a function of what the disks of the streams and of the slots read.
pub record OfCheckpoint {D : Type 0} (G : Ghosts D) (o : Output) (old new : List D) (answer : Status) (n : ℕ) : Type 0 where
  -- nothing was written, or this checkpoint was, or that failed
  pub touched : AreUnwritten G n old new ⊎ ((slot : ℕ) × (c : Checkpoint) × IsPut G n old new slot c)
  -- once it is there it is told
  pub written : has_written answer ≡ true → (slot : ℕ) × (c : Checkpoint) × IsPut G n old new slot c × OfDisk (HoldsWritten G slot c) old new (MAX_STREAMS + slot) × CheckpointTells slot c (Wrote o.hears o.held o.held') answer
  pub bad_log : (fault : LogFault) → answer ≡ status.BadLog fault → G.tells → IsCheckpointRefused (images_of G.seen old n) (slots_of G.seen old) fault
  -- a refusal has at most read and synced the disks, each by just these calls
  pub refused : (fault : LogFault) → answer ≡ status.BadLog fault → AreUnwritten G n old new
  pub refused_calls : (fault : LogFault) → answer ≡ status.BadLog fault → EachIn (IsUsed n) (λ j d e. AllCalls G.tells G.number G.fails G.short (calls_before_writes (length (G.seen d))) d e) old new
  pub bad_log_told : G.tells → (fault : LogFault) → log_of None (images_of G.seen old n) ≡ Err fault → EndsAsBad fault answer
  pub last_told : G.tells → (log : Log) (slots : Slots) (fault : LogFault) → log_of None (images_of G.seen old n) ≡ Ok log → HoldSlots (slots_of G.seen old) slots → next_write slots ≡ Err fault → EndsAsBad fault answer
  pub tangled_told : G.tells → (log : Log) (slots : Slots) (next : NextWrite) → log_of None (images_of G.seen old n) ≡ Ok log → HoldSlots (slots_of G.seen old) slots → next_write slots ≡ Ok next → HaveNoOrder (taken log) →
      EndsTangledOver (taken log) answer
  pub done : G.tells → (log : Log) (slots : Slots) (next : NextWrite) (order : List Kept) → log_of None (images_of G.seen old n) ≡ Ok log → HoldSlots (slots_of G.seen old) slots → next_write slots ≡ Ok next → IsOrderOver (taken log) order →
      (Rose o.faults o.faults' → ⊥) → ((j : ℕ) → IsUsed n j → RoseAt G.faults old new j → ⊥) → EndsDone answer

-- ---- what is said of both

-- each answer has its cause, and the disks that are not used are as they were
pub record HasEnded {D : Type 0} (G : Ghosts D) (o : Output) (old new : List D) (answer : Status) (n : ℕ) : Type 0 where
  pub kind : ends_recovery answer ≡ true
  pub disk : (j : ℕ) → answer ≡ status.DiskFault j → IsUsed n j × RoseAt G.faults old new j
  pub stopped : (j : ℕ) → answer ≡ status.DiskFault j → G.tells → IsFirstStopped G.tells G.number G.fails G.short old new j
  pub clean : is_behind_reading answer ≡ true → EachIn (IsUsed n) (λ j. IsClean G.tells G.number G.fails) old new
  pub refusal : is_refusal answer ≡ true → WroteFront (Wrote o.hears o.held o.held') (Rose o.faults o.faults') (fault_text answer)
  pub disk_line : (j : ℕ) → answer ≡ status.DiskFault j → WroteFront (Wrote o.hears o.held o.held') (Rose o.faults o.faults') (fault_text answer)
  pub sink : answer ≡ status.WriteFault → Rose o.faults o.faults'
  pub silent : answer ≡ status.NoMemory → Wrote o.hears o.held o.held' []
  pub rest : (j : ℕ) → (IsUsed n j → ⊥) → slice_get new j ≡ slice_get old j

-- the used disks were at most read; each was read whole before a bad log or a failed sink was told
pub record HasReadAll {D : Type 0} (G : Ghosts D) (old new : List D) (answer : Status) (n : ℕ) : Type 0 where
  pub read : EachIn (IsUsed n) (λ j. OnlyRead G.tells G.seen G.may_leave G.moment G.may_leave_since) old new
  pub calls : is_behind_reading answer ≡ true → EachIn (IsUsed n) (λ j. AllCalls G.tells G.number G.fails G.short calls_to_read) old new
