-- All that is said of a run, of one history.
use Rattle.std.specs.Prelude.{ℕ, ◌<◌, ◌≤◌, ◌≡◌, ◌⊎◌, Bool, true, false, List, [], length, take, Option, Some, None, unwrap_or}
use Rattle.tau_base.specs.declared.value.Key.{Key}
use Rattle.tau_base.specs.declared.value.LogMode.{LogMode}
use Rattle.tau_base.specs.declared.value.Value.{Value}
use Rattle.tau_occ.specs.declared.style.Style.{Style}
use Rattle.tau_text.specs.declared.load.Turn.{Turn}
use Rattle.tau_text.specs.declared.load.Workload.{Workload}
use Rattle.tau_report.specs.Report.{ack_lines}
use Rattle.tau_machine.specs.State.{Core}
use Rattle.tau_machine.specs.Runs as machine
use Rattle.tau_core.specs.declared.state.Load.{Load}
use Rattle.tau_core.specs.View.{setting_of}
use Rattle.tau_run.specs.Outside.{Outside}
use Rattle.tau_run.specs.Run.{Run, IsHistory, IsReportOf, AllAcked}
use Rattle.tau_run.specs.RecoveredFacts.{IsImaged, IsAcknowledged, IsEnded}
use Rattle.tau_run.specs.CoreRun.{IsLoadOn, IsFirstState, IsRunOf}
use Rattle.tau_run.specs.StopsLeave.{NamesLowest}
use Rattle.tau_run.specs.Turns.{Progress}
use Rattle.tau_run.specs.Schedule.{IsWhole, IsPart, peeked}

-- how a run ended: it went to its end, a disk failed, the sink failed, it ran out of memory, or it was not begun
pub data Ending : Type 0 where
  Done : Ending
  DiskFailed : ℕ → Ending
  SinkFailed : Ending
  NoMemory : Ending
  NotBegun : Ending

-- the text was written, or a first part of it where the sink failed
abbrev pub WroteFront : (List ℕ → Type 0) → Type 0 → List ℕ → Type 0
WroteFront wrote sink_rose text = wrote text ⊎ ((k : ℕ) × (k < length text) × wrote (take k text) × sink_rose)

-- What was written of the run, by how it ended; the function tells where each stream was stopped.
abbrev pub RunTells : ℕ → LogMode → Workload → Outside → (ℕ → Option ℕ) → Run → Ending → Type 0
RunTells n mode load o stops run Done = IsEnded n mode load o.may_leave o.disk_rose run × NamesLowest n stops None × AllAcked load run × ((text : List ℕ) × IsReportOf load run None text × o.wrote text)
RunTells n mode load o stops run (DiskFailed j) =
    (IsEnded n mode load o.may_leave o.disk_rose run × NamesLowest n stops (Some j) × ((i : ℕ) → i < n → (k : ℕ) × (o.opening_calls i ≤ k) × o.had_calls i k) × ((text : List ℕ) × IsReportOf load run (Some j) text × o.wrote text))
    ⊎ ((run.calls ≡ []) × (run.acks ≡ []) × ((k : ℕ) × (k ≤ o.opening_calls j) × o.had_calls j k) × WroteFront o.wrote o.sink_rose (o.fault_line j))
RunTells n mode load o stops run SinkFailed =
    IsEnded n mode load o.may_leave o.disk_rose run × ((text : List ℕ) × (failed : Option ℕ) × (k : ℕ) × IsReportOf load run failed text × NamesLowest n stops failed × (k < length text) × o.wrote (take k text))
RunTells n mode load o stops run NoMemory = (k : ℕ) × WroteFront o.wrote o.sink_rose (ack_lines (take k run.acks))
RunTells n mode load o stops run NotBegun = (run.calls ≡ []) × (run.acks ≡ [])

-- the turns of a workload; none where it has no section of them
abbrev pub turns_of : Workload → List Turn
turns_of load = unwrap_or load.turns []

-- in this style, whatever its workers have peeked
abbrev pub IsByTurns : Style → Bool → ℕ → ℕ → Workload → Load → Core → Progress → Type 0
IsByTurns style true n m load l opening p = (peeks : ℕ → List (Key × Value)) × IsWhole (setting_of l) m n style (turns_of load) opening (peeked p peeks)
IsByTurns style false n m load l opening p = (peeks : ℕ → List (Key × Value)) × IsPart (setting_of l) m n style (turns_of load) opening (peeked p peeks)

-- How the events of a run were chosen, of a whole run (true) or of a first part: by turns; in threads, any events in any
-- order. A workload that has turns is run by them, any other in threads.
abbrev pub by_turns : Style → ℕ → ℕ → Workload → Bool → Load → Core → Progress → Type 0
by_turns style n m load whole l opening p = IsByTurns style whole n m load l opening p

abbrev pub in_any_order : Bool → Load → Core → Progress → Type 0
in_any_order whole l opening p = Unit {0}

abbrev pub chosen_by : Option (List Turn) → Style → ℕ → ℕ → Workload → Bool → Load → Core → Progress → Type 0
chosen_by None style n m load = in_any_order
chosen_by (Some turns) style n m load = by_turns style n m load

-- The run is what these events have made from the opening of this workload where the run began; a stream was stopped
-- where the function tells.
pub record IsCoreRun (by : Load → Core → Progress → Type 0) (n m : ℕ) (mode : LogMode) (load : Workload) (stops : ℕ → Option ℕ) (run : Run) : Type 0 where
  pub stands_on : Load
  pub load_is : IsLoadOn n m mode load run.start stands_on
  pub opening : Core
  pub first : IsFirstState stands_on opening
  pub progress : Progress
  pub led : machine.Run (setting_of stands_on) opening progress.events progress.joined progress.state
  pub chosen : by stands_on opening progress
  pub is : IsRunOf n stands_on progress.joined progress.state load run
  pub told : run.acks ≡ progress.told
  pub stopped : (j : ℕ) → j < n → (progress.state.streams j).stop ≡ stops j

-- A run that was not begun has no events; one that went to its end has all. If a disk failed either may be so: in a run that
-- was not begun no stream was stopped, and one that is told to its end names one that was.
abbrev pub IsCoreRunAt : (Bool → Load → Core → Progress → Type 0) → ℕ → ℕ → LogMode → Workload → (ℕ → Option ℕ) → Run → Ending → Type 0
IsCoreRunAt by n m mode load stops run NoMemory = IsCoreRun (by false) n m mode load stops run
IsCoreRunAt by n m mode load stops run NotBegun = (run.calls ≡ []) × (run.acks ≡ [])
IsCoreRunAt by n m mode load stops run (DiskFailed j) = IsCoreRun (by true) n m mode load stops run ⊎ ((run.calls ≡ []) × (run.acks ≡ []) × NamesLowest n stops None)
IsCoreRunAt by n m mode load stops run other = IsCoreRun (by true) n m mode load stops run

-- The run began on what the streams held. What was written is its report, each image of a stop since the entry is what was
-- there and a closed part of it, and a stop now leaves what it acknowledged.
pub record RunFacts (by : Bool → Load → Core → Progress → Type 0) (n m : ℕ) (mode : LogMode) (load : Workload) (outside : Outside) (ending : Ending) : Type 0 where
  pub run : Run
  pub begins : run.start ≡ outside.start
  pub history : IsHistory n m load run
  -- it is of a run of the core, in which a stream stops only where its disk failed
  pub stops : ℕ → Option ℕ
  pub core : IsCoreRunAt by n m mode load stops run ending
  pub stopped : (j k : ℕ) → stops j ≡ Some k → outside.disk_rose j
  pub told : RunTells n mode load outside stops run ending
  pub imaged : IsImaged n mode load outside.began_in_order outside.may_have_left run
  pub acknowledged : IsAcknowledged n load outside.may_leave run
