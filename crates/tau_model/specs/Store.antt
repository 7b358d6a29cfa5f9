-- A store that executes one call after another.
use Rattle.std.specs.Prelude.{◌≡◌, ◌==◌, ◌&&◌, ℕ, Bool, List, Some, slice_get}
use Rattle.std.specs.Ordering.{int_eq}
use Rattle.indexmap.specs.IndexMap.{get}
use Rattle.tau_base.specs.declared.value.Key.{Key}
use Rattle.tau_base.specs.declared.value.Value.{Value}
use Rattle.tau_base.specs.Database.{Db, db_of}
use Rattle.tau_model.specs.declared.rows.Rows.{Rows}
use Rattle.tau_model.specs.declared.store.SerialStore.{SerialStore}

-- the derived equality of keys, by which maps find them
abbrev pub is_key : Key → Key → Bool
is_key a b = a.table == b.table && int_eq a.row b.row

-- the database that the rows make
abbrev pub rows_of : Rows → Db
rows_of s = db_of (get is_key s.rows)

-- the database that the store holds
abbrev pub database : SerialStore → Db
database s = rows_of s.rows

-- the entry at this index is of the row
abbrev pub IsAt : Key → ℕ → List (Key × Value) → Type 0
IsAt key i entries = (v : Value) × (slice_get entries i ≡ Some (key, v))
