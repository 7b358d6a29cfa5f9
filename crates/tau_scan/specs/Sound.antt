-- Logs that a run may go on from.
use Rattle.std.specs.Prelude.{ℕ, ◌≡◌, List, [], map, replicate, Ok}
use Rattle.tau_base.specs.Database.{Db, empty_db}
use Rattle.tau_base.specs.Vectors.{AtMost}
use Rattle.tau_base.specs.declared.format.Format.{Format}
use Rattle.tau_model.specs.History.{Member, Reordered}
use Rattle.tau_model.specs.Logged.{Orderly}
use Rattle.tau_model.specs.Redo.{redo_contents}
use Rattle.tau_epoch.specs.Epochs.{Mark}
use Rattle.tau_scan.specs.declared.log.Log.{Log}
use Rattle.tau_scan.specs.Reading.{none_declared, log_of_contents}
use Rattle.tau_scan.specs.Epochs.{marks_of}
use Rattle.tau_scan.specs.Taken.{Kept, taken}

-- the log of n streams without a record
abbrev pub fresh_log : ℕ → Log
fresh_log n = record { elv = replicate n 0; declarations = none_declared; streams = replicate n [] }

-- no epoch of the log asks for more than the log has
abbrev pub MarksFit : Log → Type 0
MarksFit log = (m : Mark) → Member m (marks_of log) → AtMost m.lv log.elv

-- the order has each record once, and none stands before a record on whose start its vector waits
pub record IsOrderOver (records order : List Kept) : Type 0 where
  pub each_once : Reordered records order
  pub orderly : Orderly (map (λ (r : Kept). r.place) order)

-- the database after these records of the log, one after another
abbrev pub redo_in : Log → List Kept → Db → Db
redo_in log order db = redo_contents log.declarations.procs (map (λ (r : Kept). r.content) order) db

-- these records of the log have an orderly order, and each of theirs makes the second database of the first
pub record Redoes (log : Log) (records : List Kept) (first second : Db) : Type 0 where
  pub ordered : (order : List Kept) × IsOrderOver records order
  pub alike : (order : List Kept) → IsOrderOver records order → redo_in log order first ≡ second

-- The contents hold the log in a format, none of its epochs asks for more than they have, and what it takes redoes to this database,
-- in any orderly order.
pub record IsSound (f : Format) (contents : List (List ℕ)) (log : Log) (base : Db) : Type 0 where
  pub reads : log_of_contents f contents ≡ Ok log
  pub fit : MarksFit log
  pub redone : Redoes log (taken log) empty_db base
