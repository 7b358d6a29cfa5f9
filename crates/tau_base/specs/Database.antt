-- Databases: what each key has, and what writes make of it.
use Rattle.std.specs.Prelude.{Bool, cond, List, [], ◌∷◌, Option}
use Rattle.std.specs.Option.{unwrap_or}
use Rattle.std.specs.Ordering.{is_eq, nat_cmp, int_cmp, ordering_then}
use Rattle.std.specs.declared.cmp.Ordering.{Ordering}
use Rattle.tau_base.specs.declared.value.Key.{Key}
use Rattle.tau_base.specs.declared.value.Value.{Value}
use Rattle.tau_base.specs.declared.value.Value.TheVariants.{Absent}

-- a database: what each key has, Absent where it has no row
abbrev pub Db : Type 0
Db = Key → Value

-- a database without rows
abbrev pub empty_db : Db
empty_db key = Absent

-- keys are ordered by table, then row
abbrev pub key_cmp : Key → Key → Ordering
key_cmp a b = ordering_then (nat_cmp a.table b.table) (int_cmp a.row b.row)

-- whether both are one key
abbrev pub same_key : Key → Key → Bool
same_key a b = is_eq (key_cmp a b)

-- the database after these writes; of two writes of a key the first in the list counts
abbrev pub written : List (Key × Value) → Db → Db
written [] db k = db k
written (w ∷ ws) db k = cond (same_key k w.0) w.1 (written ws db k)

-- the database of a map that holds the present rows
abbrev pub db_of : (Key → Option Value) → Db
db_of rows k = unwrap_or (rows k) Absent
