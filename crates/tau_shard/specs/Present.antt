-- The rows that are there.
use Rattle.std.specs.Prelude.{Bool, true, false, List}
use Rattle.std.specs.List.{filter}
use Rattle.tau_base.specs.declared.value.Key.{Key}
use Rattle.tau_base.specs.declared.value.Value.{Value}
use Rattle.tau_base.specs.declared.value.Value.TheVariants.{Absent, Int, Text}

abbrev pub is_present : Value → Bool
is_present Absent = false
is_present (Int n) = true
is_present (Text t) = true

abbrev pub present_rows : List (Key × Value) → List (Key × Value)
present_rows rows = filter (λ r. is_present r.1) rows
