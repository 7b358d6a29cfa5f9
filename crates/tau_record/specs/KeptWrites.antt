-- The writes of a record as they are kept.
use Rattle.std.specs.Prelude.{List, map}
use Rattle.tau_base.specs.declared.value.Key.{Key}
use Rattle.tau_base.specs.declared.value.Value.{Value}
use Rattle.tau_base.specs.declared.value.Value.TheVariants.{Int}
use Rattle.tau_record.specs.declared.writes.Rows.{Rows}
use Rattle.tau_record.specs.declared.writes.Rows.TheVariants as kept
use Rattle.tau_record.specs.declared.writes.LentWrites.{LentWrites}
use Rattle.tau_record.specs.declared.writes.LentWrites.TheVariants as lent

-- the writes that are kept so
abbrev pub rows_of : Rows → List (Key × Value)
rows_of (kept.Short rows) = map (λ r. (r.0, Int r.1)) rows.items
rows_of (kept.Whole rows) = rows

-- the writes that are lent so
abbrev pub shown : LentWrites → List (Key × Value)
shown (lent.Numbers rows) = map (λ r. (r.0, Int r.1)) rows.now
shown (lent.Whole rows) = rows.now
