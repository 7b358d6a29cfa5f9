-- A text that is cut at its first line that is exactly `report`.
use Rattle.std.specs.Prelude.{ℕ, Bool, List, [], ◌∷◌, ◌++◌, bytes_eq, codes, Option, Some, None, if◌then◌else◌}
use Rattle.std.specs.List.{concat}
use Rattle.tau_text.specs.Lines.{lines, body}

-- the line is exactly `report`; the last line of a text need not have an end
abbrev pub is_report_line : List ℕ → Bool
is_report_line line = bytes_eq (body line) (codes "report")

-- what stands before the cut begins with this
abbrev pub begun_by : List ℕ → Option (List ℕ × List ℕ) → Option (List ℕ × List ℕ)
begun_by front None = None
begun_by front (Some cut) = Some (front ++ cut.0, cut.1)

-- what stands before the first such line, and what after it; none if there is no such line
unfoldable pub cut_lines : List (List ℕ) → Option (List ℕ × List ℕ)
cut_lines [] = None
cut_lines (line ∷ rest) = if is_report_line line then Some ([], concat rest) else begun_by line (cut_lines rest)

-- the same of the lines of a text
abbrev pub cut_at_report : List ℕ → Option (List ℕ × List ℕ)
cut_at_report text = cut_lines (lines text)

-- the same of lines whose first one is passed over
abbrev pub cut_later_lines : List (List ℕ) → Option (List ℕ × List ℕ)
cut_later_lines [] = None
cut_later_lines (line ∷ rest) = begun_by line (cut_lines rest)

-- the same of a text that begins inside of a line
abbrev pub cut_past_line : List ℕ → Option (List ℕ × List ℕ)
cut_past_line text = cut_later_lines (lines text)
