-- What holds of every checkpoint.
use Rattle.std.specs.Prelude.{ℕ, ◌≡◌, true, List, Some}
use Rattle.tau_base.specs.declared.format.Format.{Format}
use Rattle.tau_base.specs.declared.value.Key.{Key}
use Rattle.tau_base.specs.declared.value.Value.{Value}
use Rattle.tau_base.specs.Database.{Db}
use Rattle.tau_model.specs.Tables.{IsTablesOf, db_of_rows}
use Rattle.tau_scan.specs.declared.log.Log.{Log}
use Rattle.tau_scan.specs.Sound.{IsOrderOver, IsSound}
use Rattle.tau_scan.specs.Taken.{Kept, taken}
use Rattle.tau_replay.specs.Redone.{IsRedone, IsRedoneOn, taken_after}
use Rattle.tau_ckpt.specs.declared.checkpoint.Checkpoint.{Checkpoint}
use Rattle.tau_ckpt.specs.declared.slots.Slots.{Slots}
use Rattle.tau_ckpt.specs.Slot.{Holds}
use Rattle.tau_ckpt.specs.Writing.{HoldsOldOrNew}
use Rattle.tau_ckpt.specs.Chosen.{AreHeld, IsRestored, checkpoint_at, chosen, fits, left_to_redo}
use Rattle.tau_run.specs.Lives.{Life, AreLives, exec_lives, last_contents, last_log}
use Rattle.tau_ckpt_laws.specs.True.{IsTrue}

-- the checkpoint that `restore` takes, if it takes one, is true for the contents
abbrev pub IsTrueIfTaken : Format → List (List ℕ) → Log → Slots → Type 0
IsTrueIfTaken f contents log slots = (c : Checkpoint) → chosen log slots ≡ Some c → IsTrue f contents c

-- each checkpoint that this image of a slot holds is true for the contents
abbrev pub HoldsTrue : Format → List (List ℕ) → ℕ → List ℕ → Type 0
HoldsTrue f contents slot image = (c : Checkpoint) → Holds slot image c → IsTrue f contents c

-- It is, if what both slots hold is true.
abbrev pub TakenIsTrue : Type 0
TakenIsTrue = (f : Format) (contents : List (List ℕ)) (log : Log) (first second : List ℕ) (slots : Slots) → AreHeld first second slots → HoldsTrue f contents 0 first → HoldsTrue f contents 1 second →
    IsTrueIfTaken f contents log slots

-- The rows of `restore` on sound contents are the tables of their database, and those that recovery gives, if the checkpoint
-- that it takes is true.
abbrev pub RestoredIsRecovered : Type 0
RestoredIsRecovered = (f : Format) (contents : List (List ℕ)) (log : Log) (base : Db) → IsSound f contents log base → (slots : Slots) → IsTrueIfTaken f contents log slots →
    (rows : List (Key × Value)) → IsRestored log (chosen log slots) rows → IsTablesOf base rows × ((other : List (Key × Value)) → IsRedone log other → rows ≡ other)

-- If what a log takes has an orderly order, what `restore` redoes of it has one, whatever the slots hold: then no record is
-- tangled.
abbrev pub NotTangled : Type 0
NotTangled = (log : Log) (order : List Kept) → IsOrderOver (taken log) order → (slots : Slots) → (some : List Kept) × IsOrderOver (left_to_redo log (chosen log slots)) some

-- a checkpoint that is made of sound contents, with the rows of their recovery, is true for them
abbrev pub MadeIsTrue : Type 0
MadeIsTrue = (f : Format) (contents : List (List ℕ)) (log : Log) (base : Db) → IsSound f contents log base → (number : ℕ) (rows : List (Key × Value)) → IsRedone log rows →
    IsTrue f contents (checkpoint_at log number rows)

-- a checkpoint that is true for contents fits their log
abbrev pub TrueFits : Type 0
TrueFits = (f : Format) (contents : List (List ℕ)) (log : Log) (base : Db) → IsSound f contents log base → (c : Checkpoint) → IsTrue f contents c → fits log c ≡ true

-- Whatever a stop leaves of a slot into which a true checkpoint was written holds nothing but what is true, if the slot did
-- before.
abbrev pub WritesKeepTrue : Type 0
WritesKeepTrue = (f : Format) (contents : List (List ℕ)) (slot : ℕ) (before : List ℕ) (c : Checkpoint) → HoldsTrue f contents slot before → IsTrue f contents c →
    (after : List ℕ) → HoldsOldOrNew slot before c after → HoldsTrue f contents slot after

-- A checkpoint that is true for sound contents is true for what any number of runs and stops leave of them.
abbrev pub LivesKeepTrue : Type 0
LivesKeepTrue = (f : Format) (n : ℕ) (old : List (List ℕ)) (log : Log) (base : Db) → IsSound f old log base → (c : Checkpoint) → IsTrue f old c → (xs : List Life) → AreLives f n old xs →
    IsTrue f (last_contents old xs) c

-- So what is redone then on a checkpoint that was made before them has an orderly order, and gives the tables of executing
-- the calls that are taken of all the runs, on the database that the checkpoint was made of.
abbrev pub RestoredLater : Type 0
RestoredLater = (f : Format) (n : ℕ) (old : List (List ℕ)) (log : Log) (base : Db) → IsSound f old log base → (saved : List (Key × Value)) → IsRedone log saved → (xs : List Life) → AreLives f n old xs →
    ((order : List Kept) × IsOrderOver (taken_after log.elv (last_log log xs)) order) ×
    ((rows : List (Key × Value)) → IsRedoneOn (last_log log xs) (taken_after log.elv (last_log log xs)) (db_of_rows saved) rows → IsTablesOf (exec_lives xs base) rows)
