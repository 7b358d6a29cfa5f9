-- What stands against a lock, and what a lock raises.
use Rattle.std.specs.Prelude.{ℕ, ◌<◌, ◌==◌, ◌&&◌, ◌≡◌, Bool, true, false, not, Option, Some, None, IsSome, List, [], ◌∷◌, if◌then◌else◌}
use Rattle.std.specs.Map.{lookup}
use Rattle.tau_base.specs.declared.value.Key.{Key}
use Rattle.tau_base.specs.declared.value.Value.TheVariants.{Absent}
use Rattle.tau_base.specs.declared.value.Mode.{Mode}
use Rattle.tau_base.specs.declared.value.Mode.TheVariants.{Read, Write}
use Rattle.tau_base.specs.Vectors.{covers}
use Rattle.tau_base.specs.Vectors.{join}
use Rattle.tau_shard.specs.Shard as theory
use Rattle.tau_shard.specs.Shard.{entry_in}
use Rattle.tau_shard.specs.declared.entry.ShardRefusal.{ShardRefusal}
use Rattle.tau_shard.specs.declared.entry.ShardRefusal.TheVariants.{NoMemory, Busy}
use Rattle.tau_shard.specs.declared.entry.LockEntry.{LockEntry}
use Rattle.tau_shard.specs.Plain.{PlainShard}
use Rattle.tau_shard.specs.Read.{is_key, shard_of}

-- a hold in this mode stands against a lock
abbrev pub against : Mode → Option Mode → Bool
against m None = false
against Read (Some Read) = false
against Read (Some Write) = true
against Write (Some n) = true

-- the least number of a set
abbrev pub IsLeast : (ℕ → Bool) → ℕ → Type 0
IsLeast in_set u = (in_set u ≡ true) × ((v : ℕ) → v < u → in_set v ≡ false)

-- the worker u stands against a lock of the worker w
abbrev pub blocks : theory.Entry → ℕ → Mode → ℕ → Bool
blocks e w m u = not (u == w) && against m (e.holders u)

-- and is the lowest that does
abbrev pub IsLowest : theory.Entry → ℕ → Mode → ℕ → Type 0
IsLowest e w m u = IsLeast (blocks e w m) u

-- why a lock is refused: the lowest worker that stands against it, or memory where nobody does
abbrev pub RefusedBy : theory.Entry → ℕ → Mode → ShardRefusal → Type 0
RefusedBy e w m NoMemory = (u : ℕ) → blocks e w m u ≡ false
RefusedBy e w m (Busy holder) = IsLowest e w m holder

-- the vector of a call after a lock
abbrev pub dep_locked : Mode → List ℕ → theory.Entry → List ℕ
dep_locked Read dep e = join dep e.write_lv
dep_locked Write dep e = join (join dep e.write_lv) e.read_lv

-- a key that is held in write mode has its row's place
abbrev pub Placed : PlainShard → Type 0
Placed s = (x : Key) (w : ℕ) → (entry_in (shard_of s) x).holders w ≡ Some Write → IsSome (lookup (is_key x) s.rows)

-- no rows, no entries
abbrev pub empty : List ℕ → theory.Shard
empty floor = record { rows = λ x. Absent; entries = λ x. None; floor = floor }

-- the test for IsCovered
abbrev pub covered : List ℕ → LockEntry → Bool
covered v e = e.readers == 0 && e.writers == 0 && covers v e.write && covers v e.read

-- the floor with the vectors of all entries that v covers
abbrev pub swept : List ℕ → List ℕ → List (Key × LockEntry) → List ℕ
swept v floor [] = floor
swept v floor (e ∷ es) = swept v (if covered v e.1 then join (join floor e.1.write) e.1.read else floor) es
