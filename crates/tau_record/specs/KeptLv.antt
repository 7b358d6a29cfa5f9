-- A vector as a record keeps it.
use Rattle.std.specs.Prelude.{ℕ, List}
use Rattle.tau_record.specs.declared.dep.Parts.{Parts}
use Rattle.tau_record.specs.declared.dep.Parts.TheVariants.{Short, Whole}

-- the vector that is kept so
abbrev pub positions_of : Parts → List ℕ
positions_of (Short parts) = parts.items
positions_of (Whole lv) = lv.value
