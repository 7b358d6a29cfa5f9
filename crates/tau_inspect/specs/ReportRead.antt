-- What reading the report of a run gives.
use Rattle.std.specs.Prelude.{ℕ, ◌≡◌, List, Option, Result, Ok, Err}
use Rattle.tau_report.specs.declared.report.RunReport.{RunReport}
use Rattle.tau_inspect.specs.declared.refusal.ReportRefusal.{ReportRefusal}
use Rattle.tau_inspect.specs.declared.refusal.ReportRefusal.TheVariants.{NoMemory, Bad}
use Rattle.tau_inspect.specs.RunText.{IsTextOf, IsFirstBad}

-- the refusal names this line, unless memory ran out
abbrev pub NamesLine : ℕ → ReportRefusal → Type 0
NamesLine number NoMemory = Unit {0}
NamesLine number (Bad line) = line ≡ number

-- the report with this text, or the first bad line of the text, unless memory ran out
abbrev pub IsReadOf : List (List ℕ) → ℕ → ℕ → List ℕ → Result RunReport ReportRefusal → Type 0
IsReadOf tables n calls text (Ok r) = (failed : Option ℕ) × IsTextOf tables n calls r failed text
IsReadOf tables n calls text (Err NoMemory) = Unit {0}
IsReadOf tables n calls text (Err (Bad line)) = IsFirstBad tables n calls text line
