-- Where a key stands in a map.
use Rattle.std.specs.Prelude.{ℕ, ◌<◌, ◌≡◌, Some, List, length, slice_get}
use Rattle.std.specs.Map.{lookup}
use Rattle.tau_base.specs.declared.value.Key.{Key}
use Rattle.tau_shard.specs.Read.{is_key}

-- the key stands at this index with this value, which is what it is looked up with
pub record StandsAt {V : Type 0} (entries : List (Key × V)) (key : Key) (at : ℕ) (value : V) : Type 0 where
  pub inside : at < length entries
  pub here : slice_get entries at ≡ Some (key, value)
  pub found : lookup (is_key key) entries ≡ Some value
