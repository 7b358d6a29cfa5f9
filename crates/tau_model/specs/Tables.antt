-- The tables of a database: its present rows in ascending order of keys.
use Rattle.std.specs.Prelude.{◌≡◌, ◌≢◌, Bool, true, false, List, map}
use Rattle.std.specs.List.{All}
use Rattle.std.specs.List.Sorted.{IsStrictlySortedBy}
use Rattle.std.specs.Map.{lookup}
use Rattle.tau_base.specs.declared.value.Key.{Key}
use Rattle.tau_base.specs.declared.value.Value.{Value}
use Rattle.tau_base.specs.declared.value.Value.TheVariants.{Absent}
use Rattle.tau_base.specs.Database.{Db, key_cmp, same_key, db_of}

-- the database of a list of rows
abbrev pub db_of_rows : List (Key × Value) → Db
db_of_rows rows = db_of (λ k. lookup (same_key k) rows)

abbrev pub is_value : Value → Bool
is_value Absent = false
is_value v = true

-- the key of a row
abbrev pub row_key : Key × Value → Key
row_key r = r.0

-- whether the row is present
abbrev pub is_present : Key × Value → Bool
is_present r = is_value r.1

-- these rows are the tables of the database
pub record IsTablesOf (db : Db) (rows : List (Key × Value)) : Type 0 where
  pub ascending : IsStrictlySortedBy key_cmp (map (λ r. r.0) rows)
  pub present : All (λ r. r.1 ≢ Absent) rows
  pub values : db_of_rows rows ≡ db
