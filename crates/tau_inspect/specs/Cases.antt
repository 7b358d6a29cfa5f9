-- What an audit may be given.
use Rattle.std.specs.Prelude.{◌≤◌, Bool, true, false, List, [], ◌∷◌, length, All, IsTrue}
use Rattle.tau_proc.specs.Takes.{takes}
use Rattle.tau_epoch.specs.Epochs.{Mark}
use Rattle.tau_scan.specs.Reading.{IsLog}
use Rattle.tau_inspect.specs.declared.case.LentCase.{LentCase}
use Rattle.tau_inspect.specs.Audit.{Case, case_of}
use Rattle.tau_inspect.specs.ReportFor.{IsReportFor}

-- what an audit is lent
abbrev pub in_case : LentCase → Case
in_case c = case_of c.load.now c.workers c.report.now c.log.now

-- some worker ran it, its procedures take its calls, the log is one that a scan gives, and the report is one of so many calls over its streams
pub record IsCase (c : Case) : Type 0 where
  pub workers : 1 ≤ c.workers
  pub taken : All (λ x. IsTrue (takes c.load.declarations.procs x)) c.load.calls
  pub log : IsLog c.log
  pub report : IsReportFor (length c.load.declarations.tables) (length c.log.elv) (length c.load.calls) c.report

abbrev pub has_mark : List Mark → Bool
has_mark [] = false
has_mark (m ∷ ms) = true
