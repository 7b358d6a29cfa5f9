-- What `restore` takes of what the two slots hold, and what `checkpoint` writes.
use Rattle.std.specs.Prelude.{ℕ, ◌+◌, ◌==◌, ◌&&◌, max, nat_le, nat_lt, if◌then◌else◌, Bool, List, length, Option, Some, None, Result, Ok, Err}
use Rattle.tau_base.specs.declared.limits.TheConstants.{MAX_STREAMS}
use Rattle.tau_base.specs.declared.value.Key.{Key}
use Rattle.tau_base.specs.declared.value.Value.{Value}
use Rattle.tau_base.specs.Vectors.{covers}
use Rattle.tau_epoch.specs.Epochs.{largest}
use Rattle.tau_model.specs.Tables.{db_of_rows}
use Rattle.tau_scan.specs.declared.fault.LogCause.TheVariants.{Last}
use Rattle.tau_scan.specs.declared.fault.LogFault.{LogFault}
use Rattle.tau_scan.specs.declared.log.Log.{Log}
use Rattle.tau_scan.specs.Epochs.{marks_of}
use Rattle.tau_scan.specs.Taken.{Kept, taken}
use Rattle.tau_replay.specs.Redone.{IsRedone, IsRedoneOn, taken_after}
use Rattle.tau_ckpt.specs.Slot.{Holds, HoldsNone}
use Rattle.tau_ckpt.specs.declared.checkpoint.Checkpoint.{Checkpoint}
use Rattle.tau_ckpt.specs.declared.checkpoint.TheConstants.{MAX_NUMBER}
use Rattle.tau_ckpt.specs.declared.slots.NextWrite.{NextWrite}
use Rattle.tau_ckpt.specs.declared.slots.Slots.{Slots}

-- ---- what the slots hold

-- the image of this slot holds this checkpoint, or none
abbrev pub HoldsJust : ℕ → List ℕ → Option Checkpoint → Type 0
HoldsJust slot image None = HoldsNone slot image
HoldsJust slot image (Some c) = Holds slot image c

-- the images of slots 0 and 1 hold this
pub record AreHeld (first second : List ℕ) (slots : Slots) : Type 0 where
  pub first_is : HoldsJust 0 first slots.first
  pub second_is : HoldsJust 1 second slots.second

-- ---- which checkpoint is redone on

-- Whether the checkpoint fits the log: it is for as many streams, each of its positions is at most the end of the stream,
-- and its epoch is at most the largest known one.
abbrev pub fits : Log → Checkpoint → Bool
fits log c = (length c.lv == length log.elv) && (covers log.elv c.lv && nat_le c.epoch (largest (marks_of log)))

-- the checkpoint of a slot, if it fits
abbrev pub fitting : Log → Option Checkpoint → Option Checkpoint
fitting log None = None
fitting log (Some c) = if fits log c then Some c else None

-- the one with the greater number, the first of two with one number
abbrev pub newer : Option Checkpoint → Option Checkpoint → Option Checkpoint
newer None second = second
newer (Some a) None = Some a
newer (Some a) (Some b) = if nat_lt a.number b.number then Some b else Some a

-- the fitting one with the greatest number, that of slot 0 if both have it
abbrev pub chosen : Log → Slots → Option Checkpoint
chosen log slots = newer (fitting log slots.first) (fitting log slots.second)

-- the taken records that are redone: those that start at or after its vector, all if there is none
abbrev pub left_to_redo : Log → Option Checkpoint → List Kept
left_to_redo log None = taken log
left_to_redo log (Some c) = taken_after c.lv log

-- the rows are those of redoing these in an orderly order, on its rows
abbrev pub IsRestored : Log → Option Checkpoint → List (Key × Value) → Type 0
IsRestored log None rows = IsRedone log rows
IsRestored log (Some c) rows = IsRedoneOn log (taken_after c.lv log) (db_of_rows c.rows) rows

-- ---- where the next one is written

-- the number of a checkpoint, 0 if there is none
abbrev pub number_of : Option Checkpoint → ℕ
number_of None = 0
number_of (Some c) = c.number

-- the greatest number that is held, whether or not that checkpoint fits a log
abbrev pub greatest : Slots → ℕ
greatest slots = max (number_of slots.first) (number_of slots.second)

-- the slot that has it, slot 0 if both have
abbrev pub greatest_slot : Slots → ℕ
greatest_slot slots = if nat_lt (number_of slots.first) (number_of slots.second) then 1 else 0

-- the slot that holds none, slot 0 first, else that of the smaller number, slot 0 if both have one number
abbrev pub next_slot : Option Checkpoint → Option Checkpoint → ℕ
next_slot None second = 0
next_slot (Some a) None = 1
next_slot (Some a) (Some b) = if nat_lt b.number a.number then 1 else 0

-- That slot, with the number after the greatest one. No number is left after the last one: then the slot that has it is at
-- fault, which is named by the number of its disk.
abbrev pub next_write : Slots → Result NextWrite LogFault
next_write slots =
    if nat_le MAX_NUMBER (greatest slots) then Err (record { stream = MAX_STREAMS + greatest_slot slots; cause = Last })
    else Ok (record { slot = next_slot slots.first slots.second; number = greatest slots + 1 })

-- The checkpoint of a log with these rows: its epoch is the largest known one, or 0, and its vector the ends of the streams.
abbrev pub checkpoint_at : Log → ℕ → List (Key × Value) → Checkpoint
checkpoint_at log number rows = record { number = number; epoch = largest (marks_of log); lv = log.elv; rows = rows }
