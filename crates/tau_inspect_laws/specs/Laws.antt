-- What an audit finds of a run's own report.
use Rattle.std.specs.Prelude.{ℕ, ◌+◌, ◌<◌, ◌≤◌, ◌≡◌, ◌≢◌, ◌⊎◌, true, List, [], length, None, Some, Ok, slice_get, slice_index, slice_index_or, Option}
use Rattle.tau_base.specs.declared.value.Key.{Key}
use Rattle.tau_base.specs.declared.value.Value.{Value}
use Rattle.tau_base.specs.declared.value.LogMode.{LogMode}
use Rattle.tau_base.specs.Database.{empty_db}
use Rattle.tau_base.specs.Modes.{format_of, most_streams}
use Rattle.tau_block.specs.Image.{HasContent}
use Rattle.tau_model.specs.History.{Act, Member, Depends, updates}
use Rattle.tau_model.specs.Tables.{IsTablesOf}
use Rattle.tau_machine.specs.Hands.{Txn}
use Rattle.tau_machine.specs.State.{Core}
use Rattle.tau_text.specs.declared.load.Workload.{Workload}
use Rattle.tau_scan.specs.declared.log.Log.{Log}
use Rattle.tau_scan.specs.Epochs.{marks_of}
use Rattle.tau_scan.specs.Reading.{log_of}
use Rattle.tau_core.specs.declared.state.Load.{Load}
use Rattle.tau_run.specs.CoreRun.{IsCourse, IsRunOf, IsSoundLoad}
use Rattle.tau_run.specs.Start.{fresh_start, opened_at}
use Rattle.tau_run.specs.RunFacts.{IsCoreRun, in_any_order}
use Rattle.tau_run.specs.StopsLeave.{HasFront}
use Rattle.tau_run.specs.Run.{Committed, Run, IsHistory, acts, ends, has_ack, report_of, last_db}
use Rattle.tau_run.specs.RecoveredFacts.{WaitsWithin, takes, IsRecovered}
use Rattle.tau_inspect.specs.declared.verdict.Check.TheVariants as check
use Rattle.tau_inspect.specs.declared.verdict.Verdict.{Verdict}
use Rattle.tau_inspect.specs.declared.verdict.Verdict.TheVariants as verdict
use Rattle.tau_inspect.specs.Audit.{Case, case_of, IsVerdict, IsWhole, Passes}

-- what a run of m workers told, with these rows, beside a log
abbrev pub case_of_run : ℕ → Workload → Run → List (Key × Value) → Log → Case
case_of_run m load run rows log = case_of load m (report_of load run rows) log

-- The report of a run that began on no rows passes the checks of fates, replies and rows, beside whatever log.
abbrev pub ToldAsExecuted : Type 0
ToldAsExecuted = (n m : ℕ) (load : Workload) (run : Run) (rows : List (Key × Value)) (log : Log) → IsHistory n m load run → run.start.base ≡ empty_db → IsTablesOf (last_db load run) rows →
    Passes (case_of_run m load run rows log) check.Fate × Passes (case_of_run m load run rows log) check.Reply × Passes (case_of_run m load run rows log) check.Row

-- the log takes each updating call that is acknowledged, and each on which an acknowledged call depends
abbrev pub TakesAcked : Workload → Run → Log → Type 0
TakesAcked load run log = (x : Act Committed) → Member x (acts load.declarations.procs run) → has_ack run x.call.number ≡ true →
    (updates x.effect ≡ true → takes log x.call ≡ true) × ((u : Act Committed) → Depends (acts load.declarations.procs run) x u → updates u.effect ≡ true → takes log u.call ≡ true)

-- This log was read of images of a run that began on streams without a byte: recovery finds of them what it finds of a stop since the
-- run began, and they are not older than what the run acknowledged.
pub record IsLogOfRun (n m : ℕ) (mode : LogMode) (load : Workload) (run : Run) (images : List (List ℕ)) (log : Log) : Type 0 where
  pub history : IsHistory n m load run
  pub fresh : run.start ≡ fresh_start n
  pub recovered : IsRecovered n mode load run images
  pub acknowledged : TakesAcked load run log
  pub count : length images ≡ n
  pub reads : log_of None images ≡ Ok log

-- Beside the run's report each record of the log is the first one of a call that writes, in its stream, with what the call did and the
-- vector that was acknowledged.
abbrev pub RecordsFit : Type 0
RecordsFit = (n m : ℕ) (mode : LogMode) (load : Workload) (run : Run) (images : List (List ℕ)) (log : Log) (rows : List (Key × Value)) → IsLogOfRun n m mode load run images log →
    Passes (case_of_run m load run rows log) check.Record

-- Each acknowledged call that writes is taken, and what is acknowledged or taken depends on no updating call that is not.
abbrev pub TakenFits : Type 0
TakenFits = (n m : ℕ) (mode : LogMode) (load : Workload) (run : Run) (images : List (List ℕ)) (log : Log) (rows : List (Key × Value)) → IsLogOfRun n m mode load run images log →
    Passes (case_of_run m load run rows log) check.Ack × Passes (case_of_run m load run rows log) check.Closed

-- these lengths are those that the streams had at the end, or as long as what the calls wait for
abbrev pub IsLongEnough : List ℕ → Run → Type 0
IsLongEnough lengths run = (lengths ≡ ends run) ⊎ WaitsWithin lengths run

-- If such a log is long enough, and each call of the order has its record or its acknowledgement, the order is the reported history by the
-- places in the log.
abbrev pub OrderFits : Type 0
OrderFits = (n m : ℕ) (mode : LogMode) (load : Workload) (run : Run) (images : List (List ℕ)) (log : Log) (rows : List (Key × Value)) → IsLogOfRun n m mode load run images log → IsLongEnough log.elv run →
    IsWhole (case_of_run m load run rows log) → Passes (case_of_run m load run rows log) check.Order

-- Beside such a log every verdict on the run's report is yes or cut; but for one that tells of an epoch record, or of the order if the log
-- is not long enough.
abbrev pub VerdictsOfRun : Type 0
VerdictsOfRun = (n m : ℕ) (mode : LogMode) (load : Workload) (run : Run) (images : List (List ℕ)) (log : Log) (rows : List (Key × Value)) → IsLogOfRun n m mode load run images log → IsTablesOf (last_db load run) rows →
    (v : Verdict) → IsVerdict (case_of_run m load run rows log) v →
    (v ≡ verdict.Yes) ⊎ ((v ≡ verdict.Cut) ⊎ (((k : ℕ) × (v ≡ verdict.No check.Epoch k) × (marks_of log ≢ [])) ⊎ ((k : ℕ) × (v ≡ verdict.No check.Order k) × (IsLongEnough log.elv run → ⊥))))

-- Each image has what its stream held first and the first of what was gathered, and is not shorter than what is persisted.
abbrev pub Reaches : ℕ → Workload → Run → Load → Core → List (List ℕ) → Type 0
Reaches n load run l s images = (j : ℕ) (image : List ℕ) → slice_get images j ≡ Some image →
    (bytes : List ℕ) × HasFront n j (opened_at load run.start j) l s bytes image × (slice_index s.plv j ≤ length (opened_at load run.start j) + length bytes)

-- A log of images that reach what is persisted, of a run that began on nothing, is one of the run, has no epoch, and is as long as what the
-- run's calls wait for.
abbrev pub ReachImages : Type 0
ReachImages = (n m : ℕ) (mode : LogMode) (load : Workload) (l : Load) (K : List (Act Txn)) (s : Core) → (run : Run) → IsCourse n m mode load run.start l K s → IsRunOf n l K s load run → run.start ≡ fresh_start n →
    (images : List (List ℕ)) → length images ≡ n → Reaches n load run l s images → (log : Log) → log_of None images ≡ Ok log →
    IsLogOfRun n m mode load run images log × (marks_of log ≡ []) × WaitsWithin log.elv run

-- The report of a run that began on nothing, beside a log of images that reach what it persisted, is found whole or cut: every verdict on it
-- is yes or cut.
abbrev pub OwnReportFits : Type 0
OwnReportFits = (n m : ℕ) (mode : LogMode) (load : Workload) (l : Load) (K : List (Act Txn)) (s : Core) → (run : Run) → IsCourse n m mode load run.start l K s → IsRunOf n l K s load run → run.start ≡ fresh_start n →
    (images : List (List ℕ)) → length images ≡ n → Reaches n load run l s images → (log : Log) → log_of None images ≡ Ok log → (rows : List (Key × Value)) → IsTablesOf (last_db load run) rows →
    (v : Verdict) → IsVerdict (case_of_run m load run rows log) v → (v ≡ verdict.Yes) ⊎ (v ≡ verdict.Cut)

-- A log of a run that a core has made from streams without a byte has no epoch record.
abbrev pub NoEpochs : Type 0
NoEpochs = (n m : ℕ) (mode : LogMode) (load : Workload) (l : Load) (K : List (Act Txn)) (s : Core) → (run : Run) → IsCourse n m mode load run.start l K s → IsRunOf n l K s load run →
    (images : List (List ℕ)) (log : Log) → IsLogOfRun n m mode load run images log → marks_of log ≡ []

-- Images that each have the whole content of their stream: the log is as long as the streams were at the end.
abbrev pub WholeIsLong : Type 0
WholeIsLong = (n m : ℕ) (mode : LogMode) (load : Workload) (run : Run) (images : List (List ℕ)) (log : Log) → IsLogOfRun n m mode load run images log →
    ((j : ℕ) (image : List ℕ) → slice_get images j ≡ Some image → HasContent (format_of mode) n j (slice_index_or run.contents j []) image) → log.elv ≡ ends run

-- The report of a run of the core from streams without a byte, however its events were chosen, beside a log of its images that is long
-- enough: every verdict on it is yes or cut.
abbrev pub RunReportFits : Type 0
RunReportFits = (n m : ℕ) (mode : LogMode) (load : Workload) (stops : ℕ → Option ℕ) (run : Run) → IsSoundLoad load → n ≤ most_streams (format_of mode) → IsCoreRun (in_any_order true) n m mode load stops run →
    (images : List (List ℕ)) (log : Log) → IsLogOfRun n m mode load run images log → IsLongEnough log.elv run → (rows : List (Key × Value)) → IsTablesOf (last_db load run) rows →
    (v : Verdict) → IsVerdict (case_of_run m load run rows log) v → (v ≡ verdict.Yes) ⊎ (v ≡ verdict.Cut)

-- Images of a run that went to its end, not older than its end: each is as long as what is durable of its stream, and what the run's calls
-- wait for is durable, or ends where the record of a call does.
pub record AreNotOlder (n : ℕ) (mode : LogMode) (run : Run) (images : List (List ℕ)) : Type 0 where
  pub durable : List ℕ
  pub waits : WaitsWithin durable run
  pub least : (j : ℕ) (image content : List ℕ) → j < n → slice_get images j ≡ Some image → HasContent (format_of mode) n j content image → slice_index durable j ≤ length content

-- A log of such images is as long as what the run's calls wait for.
abbrev pub EndIsLong : Type 0
EndIsLong = (n m : ℕ) (mode : LogMode) (load : Workload) (run : Run) (images : List (List ℕ)) (log : Log) → IsLogOfRun n m mode load run images log → AreNotOlder n mode run images → WaitsWithin log.elv run

-- The report of a run of the core from streams without a byte that went to its end, whether disks failed in it or not, beside a log of images
-- not older than its end: every verdict on it is yes or cut.
abbrev pub EndedReportFits : Type 0
EndedReportFits = (n m : ℕ) (mode : LogMode) (load : Workload) (stops : ℕ → Option ℕ) (run : Run) → IsSoundLoad load → n ≤ most_streams (format_of mode) → IsCoreRun (in_any_order true) n m mode load stops run →
    (images : List (List ℕ)) (log : Log) → IsLogOfRun n m mode load run images log → AreNotOlder n mode run images → (rows : List (Key × Value)) → IsTablesOf (last_db load run) rows →
    (v : Verdict) → IsVerdict (case_of_run m load run rows log) v → (v ≡ verdict.Yes) ⊎ (v ≡ verdict.Cut)
