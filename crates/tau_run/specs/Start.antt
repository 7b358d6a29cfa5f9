-- Where a run begins: what its streams held before it, and what each of them is given first.
use Rattle.std.specs.Prelude.{ℕ, ◌+◌, ◌≤◌, ◌≡◌, ◌⊎◌, List, [], ◌++◌, length, replicate, slice_index_or, Some, Ok}
use Rattle.std.specs.List.{AllZip}
use Rattle.tau_base.specs.declared.format.Format.{Format}
use Rattle.tau_base.specs.Database.{Db, empty_db}
use Rattle.tau_base.specs.declared.limits.TheConstants.{LAST_EPOCH}
use Rattle.tau_text.specs.declared.load.Workload.{Workload}
use Rattle.tau_text.specs.Canonical.{declarations_text}
use Rattle.tau_record.specs.declared.entry.Entry.TheVariants.{Catalogue}
use Rattle.tau_record.specs.Format.{One}
use Rattle.tau_record.specs.Record.{spelling}
use Rattle.tau_record.specs.Vector.{ArePlaces}
use Rattle.tau_epoch.specs.Epochs.{largest}
use Rattle.tau_scan.specs.declared.log.Log.{Log}
use Rattle.tau_scan.specs.Epochs.{marks_of}
use Rattle.tau_scan.specs.Given.{given_after}
use Rattle.tau_scan.specs.Reading.{catalogue_in, log_of_contents, IsReading}
use Rattle.tau_scan.specs.Sound.{fresh_log, IsOrderOver, redo_in}
use Rattle.tau_scan.specs.Taken.{Kept, taken}
use Rattle.tau_epoch_laws.specs.Continues.{none_in}

-- The contents of the streams, the log that they hold with the database of redoing it, and the number of the run's epoch,
-- 0 for none.
pub record Start : Type 0 where
  pub old : List (List ℕ)
  pub log : Log
  pub base : Db
  pub epoch : ℕ

-- n streams that hold nothing
abbrev pub fresh_start : ℕ → Start
fresh_start n = record { old = replicate n []; log = fresh_log n; base = empty_db; epoch = 0 }

-- the catalogue record of a workload's declarations, with which every stream begins; it is the same in each format
abbrev pub catalogue_of : Workload → List ℕ
catalogue_of load = spelling One [] (Catalogue (declarations_text load.declarations))

-- what a stream that held this is given before the first call: the catalogue if it held nothing, and the epoch with the
-- old lengths
abbrev pub given_first : Workload → Start → List ℕ → List ℕ
given_first load start old = given_after (declarations_text load.declarations) start.epoch start.log.elv old

-- what it holds then
abbrev pub opened_with : Workload → Start → List ℕ → List ℕ
opened_with load start old = old ++ given_first load start old

abbrev pub old_at : Start → ℕ → List ℕ
old_at start j = slice_index_or start.old j []

abbrev pub opened_at : Workload → Start → ℕ → List ℕ
opened_at load start j = opened_with load start (old_at start j)

-- A run of this workload may begin on n streams so: they were read in this format and redone in some orderly order, they
-- declare what the workload does, and the run's epoch is the next one, where they hold anything.
pub record IsStart (f : Format) (n : ℕ) (load : Workload) (start : Start) : Type 0 where
  pub count : length start.old ≡ n
  pub reads : log_of_contents f start.old ≡ Ok start.log
  pub read : AllZip (IsReading f n) start.old start.log.streams
  pub redone : (order : List Kept) × IsOrderOver (taken start.log) order × (redo_in start.log order empty_db ≡ start.base)
  pub declared : none_in start.log.streams ⊎ (catalogue_in start.log.streams ≡ Ok (Some (declarations_text load.declarations)))
  pub epoch : (none_in start.log.streams × (start.epoch ≡ 0)) ⊎ ((none_in start.log.streams → ⊥) × (start.epoch ≡ largest (marks_of start.log) + 1))
  pub small : start.epoch ≤ LAST_EPOCH
  pub places : ArePlaces start.log.elv
