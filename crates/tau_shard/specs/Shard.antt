-- One shard: its rows, its lock entries and its floor.
use Rattle.std.specs.Prelude.{ℕ, ◌≤◌, length, ◌==◌, if◌then◌else◌, ◌≡◌, ◌⊎◌, Option, Some, None, List, [], ◌∷◌}
use Rattle.tau_base.specs.declared.value.Key.{Key}
use Rattle.tau_base.specs.declared.value.Value.{Value}
use Rattle.tau_base.specs.declared.value.Mode.{Mode}
use Rattle.tau_base.specs.Database.{Db, same_key, written}
use Rattle.tau_base.specs.Vectors.{AtMost, join}

-- the function with another value at i
abbrev pub at : {A : Type 0} → ℕ → A → (ℕ → A) → ℕ → A
at i a f j = if j == i then a else f j

-- a lock entry: in which mode each worker holds the key, and the two vectors
pub record Entry : Type 0 where
  pub holders : ℕ → Option Mode
  pub write_lv : List ℕ
  pub read_lv : List ℕ

pub record Shard : Type 0 where
  pub rows : Db
  pub entries : Key → Option Entry
  pub floor : List ℕ

-- the entry, or a new one at the floor
abbrev pub entry_or : List ℕ → Option Entry → Entry
entry_or floor None = record { holders = λ w. None; write_lv = floor; read_lv = floor }
entry_or floor (Some e) = e

abbrev pub entry_in : Shard → Key → Entry
entry_in sh x = entry_or sh.floor (sh.entries x)

abbrev pub put_entry : Shard → Key → Entry → Shard
put_entry sh x e = record sh { entries = λ y. if same_key y x then Some e else sh.entries y }

abbrev pub held_as : Entry → ℕ → Option Mode → Entry
held_as e w m = record e { holders = at w m e.holders }

-- the worker holds the key
abbrev pub shard_locked : Shard → ℕ → Key → Mode → Shard
shard_locked sh w x m = put_entry sh x (held_as (entry_in sh x) w (Some m))

-- the worker gives the key back, and no vector is raised
abbrev pub shard_quit : Shard → ℕ → Key → Shard
shard_quit sh w x = put_entry sh x (held_as (entry_in sh x) w None)

-- the worker frees the key: what its call wrote becomes the row
abbrev pub shard_freed : Shard → ℕ → Key → List ℕ → Option Value → Shard
shard_freed sh w x lv None = put_entry sh x (let e = held_as (entry_in sh x) w None in record e { read_lv = join e.read_lv lv })
shard_freed sh w x lv (Some value) =
    record (put_entry sh x (let e = held_as (entry_in sh x) w None in record e { write_lv = join e.write_lv lv })) { rows = written ((x, value) ∷ []) sh.rows }

-- free entries that v covers are removed, and joined into the floor
pub record Dropped (v : List ℕ) (sh new : Shard) : Type 0 where
  pub rows : new.rows ≡ sh.rows
  pub stays : (x : Key) → (new.entries x ≡ sh.entries x) ⊎
      ((new.entries x ≡ None) × ((e : Entry) → sh.entries x ≡ Some e → ((w : ℕ) → e.holders w ≡ None) × AtMost e.write_lv v × AtMost e.read_lv v × AtMost e.write_lv new.floor × AtMost e.read_lv new.floor))
  pub all : (x : Key) (e : Entry) → sh.entries x ≡ Some e → ((w : ℕ) → e.holders w ≡ None) → AtMost e.write_lv v → AtMost e.read_lv v → new.entries x ≡ None
  pub up : AtMost sh.floor new.floor
  -- it has no more positions than these vectors
  pub narrow : (n : ℕ) → length sh.floor ≤ n → ((x : Key) (e : Entry) → sh.entries x ≡ Some e → (length e.write_lv ≤ n) × (length e.read_lv ≤ n)) → length new.floor ≤ n
  -- and it is the least such floor
  pub least : (z : List ℕ) → AtMost sh.floor z →
      ((x : Key) (e : Entry) → sh.entries x ≡ Some e → new.entries x ≡ None → AtMost e.write_lv z × AtMost e.read_lv z) → AtMost new.floor z
