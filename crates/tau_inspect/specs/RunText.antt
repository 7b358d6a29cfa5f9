-- The texts that runs write, and the first bad line of a text that is none.
use Rattle.std.specs.Prelude.{ℕ, ◌+◌, ◌^◌, ◌<◌, ◌≤◌, ◌≡◌, ◌==◌, ◌⊎◌, true, not, List, [], ◌∷◌, ◌++◌, length, count_by, Option, Some, Ok, slice_get}
use Rattle.std.specs.List.{list_all}
use Rattle.tau_base.specs.declared.limits.TheConstants.{MAX_STREAMS}
use Rattle.tau_text.specs.declared.load.Workload.{Workload}
use Rattle.tau_text.specs.Spelled.{known}
use Rattle.tau_text.specs.Text.{workload_of}
use Rattle.tau_report.specs.declared.report.RunReport.{RunReport}
use Rattle.tau_report.specs.Report.{report_text}
use Rattle.tau_inspect.specs.Bodies.{IsEnd}
use Rattle.tau_inspect.specs.ReportFor.{IsReportFor}

-- the names of tables are well spelled, and no two are alike: each is known as its own place
abbrev pub AreNames : List (List ℕ) → Type 0
AreNames tables = (i : ℕ) (name : List ℕ) → slice_get tables i ≡ Some name → known tables name ≡ Ok i

-- the tables of a workload that was read have such names
abbrev pub NamesAreKnown : Type 0
NamesAreKnown = (text : List ℕ) (load : Workload) → workload_of text ≡ Ok load → AreNames load.declarations.tables

-- the text of a run of so many calls over n streams, with this report and the stream whose disk failed
pub record IsTextOf (tables : List (List ℕ)) (n calls : ℕ) (r : RunReport) (failed : Option ℕ) (text : List ℕ) : Type 0 where
  pub report : IsReportFor (length tables) n calls r
  pub ended : IsEnd n failed
  pub is : text ≡ report_text tables r failed

-- lines that are whole: each has its byte 10
abbrev pub AreLines : List ℕ → Type 0
AreLines text = (text ≡ []) ⊎ ((front : List ℕ) × (text ≡ front ++ 10 ∷ []))

-- the text of some run begins so
pub record MayBegin (tables : List (List ℕ)) (n calls : ℕ) (front : List ℕ) : Type 0 where
  pub report : RunReport
  pub failed : Option ℕ
  pub rest : List ℕ
  pub text : IsTextOf tables n calls report failed (front ++ rest)

-- The bytes are no text of a run, and this is their first bad line: the text of some run begins with the lines before it, and none with
-- these and this one. A line that is missing, or has no byte 10, is bad.
pub record IsFirstBad (tables : List (List ℕ)) (n calls : ℕ) (bytes : List ℕ) (number : ℕ) : Type 0 where
  pub front : List ℕ
  pub back : List ℕ
  pub there : bytes ≡ front ++ back
  pub whole : AreLines front
  pub counted : number ≡ count_by (λ b. b == 10) front + 1
  pub begins : MayBegin tables n calls front
  pub bad : (line rest : List ℕ) → back ≡ line ++ 10 ∷ rest → list_all (λ b. not (b == 10)) line ≡ true → MayBegin tables n calls (front ++ line ++ 10 ∷ []) → ⊥
  pub none : (r : RunReport) (failed : Option ℕ) → IsTextOf tables n calls r failed bytes → ⊥

-- a text is that of one report and one end
abbrev pub OneReport : Type 0
OneReport = (tables : List (List ℕ)) (n calls : ℕ) → AreNames tables → n ≤ MAX_STREAMS → calls < 2 ^ 32 → (text : List ℕ) (r q : RunReport) (failed other : Option ℕ) →
    IsTextOf tables n calls r failed text → IsTextOf tables n calls q other text → (r ≡ q) × (failed ≡ other)

-- a text has at most one first bad line
abbrev pub OneFirstBad : Type 0
OneFirstBad = (tables : List (List ℕ)) (n calls : ℕ) (bytes : List ℕ) (number other : ℕ) → IsFirstBad tables n calls bytes number → IsFirstBad tables n calls bytes other → number ≡ other
