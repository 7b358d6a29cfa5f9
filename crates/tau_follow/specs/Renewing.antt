-- Rows that are renewed by what was written.
use Rattle.std.specs.Prelude.{ℕ, zero, suc, ◌+◌, ◌≡◌, ◌≢◌, ◌≤◌, List, [], ◌∷◌, map, slice_get, slice_index, Some, vec_capacity, vec_len}
use Rattle.std.specs.Global.{Vec}
use Rattle.std.specs.declared.cmp.Ordering.TheVariants.{Less}
use Rattle.tau_base.specs.Database.{Db, key_cmp, written}
use Rattle.tau_base.specs.declared.value.Key.{Key}
use Rattle.tau_base.specs.declared.value.Value.{Value}
use Rattle.tau_base.specs.declared.value.Value.TheVariants.{Absent}
use Rattle.tau_model.specs.Tables.{row_key}

-- the database after these writes, one after another
abbrev pub after : List (Key × Value) → Db → Db
after [] db = db
after (w ∷ ws) db = after ws (written (w ∷ []) db)

-- the row is at this place, and is written a value
abbrev pub IsPut : List Key → Key × Value → ℕ → Type 0
IsPut keys w place = (slice_get keys place ≡ Some w.0) × (w.1 ≢ Absent)

-- the same of each of these writes
abbrev pub ArePut : List Key → List (Key × Value) → List ℕ → Type 0
ArePut keys writes places = (i : ℕ) (w : Key × Value) → slice_get writes i ≡ Some w → IsPut keys w (slice_index places i)

abbrev pub keys_in : List (Key × Value) → List Key
keys_in rows = map row_key rows

-- the key is not there, and comes at this place, where the keys ascend
abbrev pub IsGap : List Key → Key → ℕ → Type 0
IsGap [] k place = place ≡ 0
IsGap (q ∷ keys) k zero = key_cmp k q ≡ Less
IsGap (q ∷ keys) k (suc place) = (key_cmp q k ≡ Less) × IsGap keys k place

-- there is room for one less at most
abbrev pub IsRoom : Vec (Key × Value) → Vec (Key × Value) → Type 0
IsRoom old new = vec_capacity old + vec_len new ≤ vec_capacity new + vec_len old + 1
