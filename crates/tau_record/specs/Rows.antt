-- Rows, spelled one after another.
use Rattle.std.specs.Prelude.{ℕ, true, ◌≡◌, List, ◌++◌, length}
use Rattle.std.specs.List.{flat_map, AllByRecursion}
use Rattle.std.specs.FinMap.{is_sorted}
use Rattle.tau_base.specs.Database.{key_cmp}
use Rattle.tau_base.specs.declared.value.Key.{Key}
use Rattle.tau_base.specs.declared.value.Value.{Value}
use Rattle.tau_record.specs.Item.{write, FitsWrite}

-- they stand in the order of their keys, one of each, and each fits its spelling
abbrev pub AreRows : List (Key × Value) → Type 0
AreRows rows = (is_sorted key_cmp rows ≡ true) × AllByRecursion FitsWrite rows

-- the bytes begin with the spelling of these rows, which are so many, and this is left after them
pub record IsRead (count : ℕ) (bytes : List ℕ) (rows : List (Key × Value)) (rest : List ℕ) : Type 0 where
  pub count_is : length rows ≡ count
  pub are_rows : AreRows rows
  pub parts : bytes ≡ flat_map write rows ++ rest
