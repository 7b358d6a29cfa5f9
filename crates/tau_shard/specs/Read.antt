-- A shard that is held in maps, as the shard of the theory.
use Rattle.std.specs.Prelude.{ℕ, ◌==◌, ◌&&◌, Bool, if◌then◌else◌, Option, Some, None}
use Rattle.std.specs.Int.{bit_at}
use Rattle.std.specs.Option.{unwrap_or}
use Rattle.std.specs.Map.{lookup}
use Rattle.tau_base.specs.declared.value.Value.TheVariants.{Absent}
use Rattle.tau_base.specs.declared.value.Mode.{Mode}
use Rattle.tau_base.specs.declared.value.Mode.TheVariants.{Read, Write}
use Rattle.std.specs.Ordering.{int_eq}
use Rattle.tau_base.specs.declared.value.Key.{Key}
use Rattle.tau_shard.specs.Shard as theory
use Rattle.tau_shard.specs.declared.entry.LockEntry.{LockEntry}
use Rattle.tau_shard.specs.Plain.{PlainShard}

-- the derived equality of keys, by which maps find them
abbrev pub is_key : Key → Key → Bool
is_key a b = a.table == b.table && int_eq a.row b.row

-- the workers in a mask
abbrev pub bits : ℕ → ℕ → Bool
bits mask w = bit_at mask w == 1

abbrev pub holder : Bool → Bool → Option Mode
holder reads writes = if writes then Some Write else (if reads then Some Read else None)

abbrev pub entry_of : LockEntry → theory.Entry
entry_of e = record { holders = λ w. holder (bits e.readers w) (bits e.writers w); write_lv = e.write; read_lv = e.read }

abbrev pub entry_option : Option LockEntry → Option theory.Entry
entry_option None = None
entry_option (Some e) = Some (entry_of e)

abbrev pub shard_of : PlainShard → theory.Shard
shard_of s = record {
  rows = λ x. unwrap_or (lookup (is_key x) s.rows) Absent;
  entries = λ x. entry_option (lookup (is_key x) s.entries);
  floor = s.floor;
}
