-- What is redone.
use Rattle.std.specs.Prelude.{ℕ, ◌≡◌, List}
use Rattle.tau_base.specs.Database.{Db, empty_db}
use Rattle.tau_scan.specs.declared.log.Log.{Log}
use Rattle.tau_scan.specs.Epochs.{judge_of}
use Rattle.tau_scan.specs.Taken.{Kept, taken}
use Rattle.tau_pool.specs.Item.{Item}
use Rattle.tau_pool.specs.Items.{items_from, items_after}
use Rattle.tau_replay.specs.Redone.{taken_after}

-- records of a log, what the pools keep of them before any is started, and the database that they are redone on
pub record Course : Type 0 where
  pub records : List Kept
  pub items : List Item
  pub base : Db

-- all taken records, on no rows
abbrev pub whole : Log → Course
whole log = record { records = taken log; items = items_from (judge_of log) 0 log.streams; base = empty_db }

-- those that start at or after what the vector has for their stream, on this database
abbrev pub after : Log → List ℕ → Db → Course
after log from base = record { records = taken_after from log; items = items_after from (judge_of log) log.streams; base = base }

-- the records are those after some vector
abbrev pub IsPart : Log → Course → Type 0
IsPart log course = (from : List ℕ) × (course.records ≡ taken_after from log)
