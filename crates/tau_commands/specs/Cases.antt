-- What reading the source of an audit gives: a workload and the report of a run of it, or why there are none.
use Rattle.std.specs.Prelude.{ℕ, ◌<◌, ◌≡◌, List, [], length, Option, Result, Ok, Err, Bool, true}
use Rattle.tau_base.specs.declared.limits.TheConstants.{MAX_WORKLOAD}
use Rattle.tau_text.specs.declared.load.Workload.{Workload}
use Rattle.tau_text.specs.Kept.{IsRunnable}
use Rattle.tau_text.specs.Text.{workload_of}
use Rattle.tau_report.specs.declared.report.RunReport.{RunReport}
use Rattle.tau_inspect.specs.ReportFor.{IsReportFor}
use Rattle.tau_inspect.specs.RunText.{IsFirstBad, IsTextOf}
use Rattle.tau_commands.specs.declared.status.Status.{Status}
use Rattle.tau_commands.specs.declared.status.Status.TheVariants as status
use Rattle.tau_commands.specs.Outside.{Input, ends_text}
use Rattle.tau_commands.specs.Sources.{HasReport, HasBadWorkload, HasBadReport}

-- the workload of the text, or its first bad line
abbrev pub ReadsLoad : List ℕ → Result Workload Status → Type 0
ReadsLoad text (Ok load) = (workload_of text ≡ Ok load) × IsRunnable load
ReadsLoad text (Err status.NoMemory) = Unit {0}
ReadsLoad text (Err (status.BadText line cause)) = workload_of text ≡ Err (record { line = line; cause = cause })
ReadsLoad text (Err other) = ⊥

-- the report of a run of the workload over n streams with this text, or its first bad line
abbrev pub ReadsReport : ℕ → Workload → List ℕ → Result RunReport Status → Type 0
ReadsReport n load text (Ok report) = (failed : Option ℕ) × IsTextOf load.declarations.tables n (length load.calls) report failed text
ReadsReport n load text (Err status.NoMemory) = Unit {0}
ReadsReport n load text (Err (status.BadReport number)) = IsFirstBad load.declarations.tables n (length load.calls) text number
ReadsReport n load text (Err other) = ⊥

-- what the text holds
abbrev pub ReadsCase : ℕ → List ℕ → Result (Workload × RunReport) Status → Type 0
ReadsCase n text (Ok found) = IsRunnable found.0 × HasReport n text found.0 found.1
ReadsCase n text (Err status.NoMemory) = Unit {0}
ReadsCase n text (Err (status.BadText line cause)) = HasBadWorkload text (record { line = line; cause = cause })
ReadsCase n text (Err (status.BadReport number)) = HasBadReport n text number
ReadsCase n text (Err other) = ⊥

-- a workload that can run, and a report of a run of it over n streams
abbrev pub IsRead : ℕ → Workload → RunReport → Type 0
IsRead n load report = IsRunnable load × IsReportFor (length load.declarations.tables) n (length load.calls) report

-- what the source holds
abbrev pub GivesCase : Input → ℕ → Result (Workload × RunReport) Status → Type 0
GivesCase s n (Ok found) = IsRead n found.0 found.1 × (s.tells → HasReport n s.left found.0 found.1 × (s.left' ≡ []))
GivesCase s n (Err status.NoMemory) = Unit {0}
GivesCase s n (Err status.ReadFault) = s.rose
GivesCase s n (Err status.TooLong) = s.tells → MAX_WORKLOAD < length s.left
GivesCase s n (Err (status.BadText line cause)) = s.tells → HasBadWorkload s.left (record { line = line; cause = cause }) × (s.left' ≡ [])
GivesCase s n (Err (status.BadReport number)) = s.tells → HasBadReport n s.left number × (s.left' ≡ [])
GivesCase s n (Err other) = ⊥

-- reading it may end so
abbrev pub ends_case : Status → Bool
ends_case (status.BadReport number) = true
ends_case other = ends_text other
