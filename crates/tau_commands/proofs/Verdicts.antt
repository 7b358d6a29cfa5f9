-- What an audit tells of its verdict.
use Rattle.std.proofs.Common.{ℕ, ◌≤◌, ◌≡◌, List, length, sym, subst}
use Rattle.std.specs.Prelude.{None, Ok}
use Rattle.tau_text.specs.declared.load.Workload.{Workload}
use Rattle.tau_report.specs.declared.report.RunReport.{RunReport}
use Rattle.tau_scan.specs.declared.fault.ScanRefusal.{ScanRefusal}
use Rattle.tau_scan.specs.declared.fault.ScanRefusal.TheVariants as scan
use Rattle.tau_scan.specs.declared.log.Log.{Log}
use Rattle.tau_scan.specs.Reading.{IsLog, log_of}
use Rattle.tau_inspect.specs.Audit.{case_of}
use Rattle.tau_inspect.specs.Cases.{IsCase}
use Rattle.tau_inspect.specs.ReportFor.{IsReportFor}
use Rattle.tau_commands.specs.declared.status.Status.{Status}
use Rattle.tau_commands.specs.declared.status.Status.TheVariants as status
use Rattle.tau_commands.specs.Auditing.{AuditTells, TellsVerdict}
use Rattle.tau_commands.specs.Cases.{IsRead}
use Rattle.tau_commands.specs.First.{status_at}

-- what is told where there is no log says nothing of these
pub audit_free : (m : ℕ) (load : Workload) (report : RunReport) (images : List (List ℕ)) (write : List ℕ → Type 0) (refusal : ScanRefusal) → AuditTells m load report images write (status_at refusal)
audit_free m load report images write scan.NoMemory = tt
audit_free m load report images write (scan.Failed j) = tt
audit_free m load report images write (scan.Bad fault) = tt

-- the verdict on a log is that on its images
pub audit_tells : (m : ℕ) (load : Workload) (report : RunReport) (images : List (List ℕ)) (write : List ℕ → Type 0) (log : Log) → log_of None images ≡ Ok log → (a : Status) → TellsVerdict (case_of load m report log) write a → AuditTells m load report images write a
audit_tells m load report images write log is status.Ok h = (h.0, record { log = log; reads = is; judged = h.1 }, h.2)
audit_tells m load report images write log is status.WriteFault h = (h.0, record { log = log; reads = is; judged = h.1 }, h.2)
audit_tells m load report images write log is status.NoMemory h = tt
audit_tells m load report images write log is (status.DiskFault j) h = tt
audit_tells m load report images write log is (status.BadLog fault) h = tt
audit_tells m load report images write log is status.Usage h = tt
audit_tells m load report images write log is (status.BadText at why) h = tt
audit_tells m load report images write log is status.ReadFault h = tt
audit_tells m load report images write log is status.TooLong h = tt
audit_tells m load report images write log is (status.BadFeed at) h = tt
audit_tells m load report images write log is (status.BadReport number) h = tt

-- what was read, with a log of as many streams, is what an audit may be given
pub is_case : (n m : ℕ) (load : Workload) (report : RunReport) (log : Log) → 1 ≤ m → IsRead n load report → IsLog log → length log.elv ≡ n → IsCase (case_of load m report log)
is_case n m load report log some read sound width = record {
  workers = some;
  taken = read.0.calls.taken;
  log = sound;
  report = subst (λ (k : ℕ). IsReportFor (length load.declarations.tables) k (length load.calls) report) (sym width) read.1;
}
