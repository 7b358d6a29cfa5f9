-- What recovery gives of a log.
use Rattle.std.specs.Prelude.{ℕ, ◌≡◌, ◌<◌, ◌≤◌, ◌⊎◌, Bool, List, ◌++◌, map, slice_index}
use Rattle.std.specs.List.{filter}
use Rattle.tau_base.specs.declared.value.Key.{Key}
use Rattle.tau_base.specs.declared.value.Value.{Value}
use Rattle.tau_base.specs.Database.{Db, empty_db}
use Rattle.tau_model.specs.History.{Member, Reordered}
use Rattle.tau_model.specs.Logged.{Orderly}
use Rattle.tau_model.specs.Redo.{redo_contents}
use Rattle.tau_model.specs.Tables.{IsTablesOf}
use Rattle.tau_scan.specs.declared.log.Log.{Log}
use Rattle.tau_scan.specs.Taken.{Kept, taken}
use Rattle.tau_scan.specs.Sound.{IsOrderOver}
use Rattle.tau_pool.specs.Items.{is_after}

-- whether the record starts at or after what the vector has for its stream
abbrev pub kept_after : List ℕ → Kept → Bool
kept_after from r = is_after from r.place.stream r.place.start

-- the taken records that do
abbrev pub taken_after : List ℕ → Log → List Kept
taken_after from log = filter (kept_after from) (taken log)

-- an orderly order of all taken records
abbrev pub IsOrderOf : Log → List Kept → Type 0
IsOrderOf log order = IsOrderOver (taken log) order

-- the rows are those of redoing these records of the log in some orderly order, on this database
pub record IsRedoneOn (log : Log) (records : List Kept) (base : Db) (rows : List (Key × Value)) : Type 0 where
  pub order : List Kept
  pub is_order : IsOrderOver records order
  pub tables : IsTablesOf (redo_contents log.declarations.procs (map (λ (r : Kept). r.content) order) base) rows

-- the same of all taken records, on no rows
abbrev pub IsRedone : Log → List (Key × Value) → Type 0
IsRedone log rows = IsRedoneOn log (taken log) empty_db rows

-- a record waits for one of these: that starts below what its vector asks of its stream
abbrev pub WaitsFor : Kept → List Kept → Type 0
WaitsFor r rest = (q : Kept) × Member q rest × (q.place.start < slice_index r.place.dep q.place.stream)

-- Redoing these records gets stuck: what is done stands in an orderly order and waits for nothing that is left, each record
-- that is left waits for one that is left, and the first of these, by stream and place, is this one.
pub record IsTangledOver (records : List Kept) (j at : ℕ) : Type 0 where
  pub done : List Kept
  pub rest : List Kept
  pub parts : Reordered records (done ++ rest)
  pub orderly : Orderly (map (λ (r : Kept). r.place) done)
  pub free : (r : Kept) → Member r done → WaitsFor r rest → ⊥
  pub stuck : (r : Kept) → Member r rest → WaitsFor r rest
  pub first : Kept
  pub among : Member first rest
  pub lowest : (q : Kept) → Member q rest → (j < q.place.stream) ⊎ ((q.place.stream ≡ j) × (at ≤ q.place.start))
  pub stream : first.place.stream ≡ j
  pub start : first.place.start ≡ at

-- recovery, which redoes all taken records, gets stuck there
abbrev pub IsTangledAt : Log → ℕ → ℕ → Type 0
IsTangledAt log j at = IsTangledOver (taken log) j at
