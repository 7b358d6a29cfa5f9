-- The marks that a table of keys holds.
use Rattle.std.specs.Prelude.{false, unwrap_or}
use Rattle.indexmap.specs.IndexMap.{get}
use Rattle.tau_model.specs.Store.{is_key}
use Rattle.tau_inspect.specs.declared.taint.Taint.{Taint}
use Rattle.tau_inspect.specs.Taint.{Marks}

-- a key without an entry has none
abbrev pub marks_of : Taint → Marks
marks_of t key = unwrap_or (get is_key t.marks key) (record { read = false; written = false })
