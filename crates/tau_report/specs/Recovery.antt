-- What recovery tells: the end-of-log vector, the taken records, and the rows.
use Rattle.std.specs.Prelude.{ℕ, List, [], ◌∷◌, ◌++◌, codes, None}
use Rattle.std.specs.List.{flat_map}
use Rattle.std.specs.Fmt.{decimal}
use Rattle.tau_base.specs.declared.value.Key.{Key}
use Rattle.tau_base.specs.declared.value.Value.{Value}
use Rattle.tau_scan.specs.Taken.{Kept, taken}
use Rattle.tau_scan.specs.declared.log.Log.{Log}
use Rattle.tau_report.specs.Lines.{line, vector_text, end_line}
use Rattle.tau_report.specs.Report.{row_lines}

abbrev pub elv_line : List ℕ → List ℕ
elv_line elv = line (codes "elv" ∷ vector_text elv ∷ [])

-- a record that recovery takes: its stream, its start and the number of its call
abbrev pub taken_line : Kept → List ℕ
taken_line r = line (codes "taken" ∷ decimal r.place.stream ∷ decimal r.place.start ∷ decimal r.number ∷ [])

abbrev pub taken_lines : List Kept → List ℕ
taken_lines records = flat_map taken_line records

-- what recovery tells of a log, with the rows at the end
abbrev pub recover_text : Log → List (Key × Value) → List ℕ
recover_text log rows = elv_line log.elv ++ taken_lines (taken log) ++ row_lines log.declarations.tables rows ++ end_line None
