-- The texts of reports: line after line.
use Rattle.std.specs.Prelude.{ℕ, ◌+◌, List, [], ◌∷◌, ◌++◌, Option}
use Rattle.std.specs.List.{flat_map}
use Rattle.tau_base.specs.declared.value.Key.{Key}
use Rattle.tau_base.specs.declared.value.Value.{Value}
use Rattle.tau_report.specs.declared.report.Fate.{Fate}
use Rattle.tau_report.specs.declared.report.RunReport.{RunReport}
use Rattle.tau_report.specs.Lines.{ack_line, fate_line, order_line, row_line, end_line}

abbrev pub ack_lines : List (ℕ × List ℕ) → List ℕ
ack_lines acks = flat_map ack_line acks

-- a line for each call, whose numbers begin with k
abbrev pub fate_lines : ℕ → List Fate → List ℕ
fate_lines k [] = []
fate_lines k (f ∷ fs) = fate_line k f ++ fate_lines (k + 1) fs

abbrev pub order_lines : List ℕ → List ℕ
order_lines order = flat_map order_line order

abbrev pub row_lines : List (List ℕ) → List (Key × Value) → List ℕ
row_lines tables rows = flat_map (row_line tables) rows

-- what a run tells after its acknowledgements, with the stream whose disk failed
abbrev pub rest_text : List (List ℕ) → RunReport → Option ℕ → List ℕ
rest_text tables r failed = fate_lines 1 r.fates ++ order_lines r.order ++ row_lines tables r.tables ++ end_line failed

-- the report of a run
abbrev pub report_text : List (List ℕ) → RunReport → Option ℕ → List ℕ
report_text tables r failed = ack_lines r.acks ++ rest_text tables r failed
